use Rattle.destination_json.proofs.Calendar.{dates}
use Rattle.destination_json.proofs.laws.dates_are_those_of_the_calendar.Goals as goal

pub returns : goal.returns
returns c = dates
