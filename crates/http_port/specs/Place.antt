-- The place of a body in the room of its port.
use Rattle.std.specs.Prelude.{◌≡◌, ◌⊎◌, IsSome}
use Rattle.http_port.specs.declared.body_room.BodyPlace.{BodyPlace}

-- a body wants no place, or has one: of its size, as each has
abbrev pub HasPlace : BodyPlace → Type 0
HasPlace place = (place.units ≡ 0) ⊎ IsSome place.had
