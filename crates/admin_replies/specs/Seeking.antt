-- What is sought of a table to tell what a request asks for.
use Rattle.hall_core.specs.declared.seeking.Sought.{Sought}
use Rattle.hall_core.specs.declared.seeking.Sought.TheVariants as sought
use Rattle.admin_replies.specs.declared.admin_request.AdminRequest.{AdminRequest}
use Rattle.admin_replies.specs.declared.admin_request.AdminRequest.TheVariants as request

-- all rows for lists of events and of records, its own for an event, else only numbers
abbrev pub sought_by : AdminRequest → Sought
sought_by (request.Events which after limit) = sought.Rows
sought_by (request.Event id) = sought.Event id
sought_by (request.Records side after limit) = sought.Rows
sought_by other = sought.Numbers
