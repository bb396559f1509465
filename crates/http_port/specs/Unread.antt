-- What is not read of a connection that fails: a head or a body.
use Rattle.std.specs.Prelude.{Option, Some, None}
use Rattle.port_meters.specs.declared.port_meter.Unread.{Unread}
use Rattle.port_meters.specs.declared.port_meter.Unread.TheVariants.{HeadCutOff, BodyCutOff}
use Rattle.http_port.specs.declared.connection_phase.ConnectionPhase.{ConnectionPhase}
use Rattle.http_port.specs.declared.connection_phase.ConnectionPhase.TheVariants.{Head, Body}

abbrev pub unread_at : ConnectionPhase → Option Unread
unread_at Head = Some HeadCutOff
unread_at Body = Some BodyCutOff
unread_at phase = None
