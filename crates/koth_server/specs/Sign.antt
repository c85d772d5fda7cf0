-- What the page of a served hill says that the hill doesn't know.
use Rattle.std.specs.{Prelude.{ℕ, List, ◌++◌, codes, decimal, Option, option_map}, Option.option_map_or}
use Rattle.koth_page.specs.{declared.sign.TheConstants.TITLE, Sign.{AddressParts, SignParts}}
use Rattle.koth_server.specs.declared.sign.Door.{Door}

-- where peers submit
abbrev pub door_parts : {A : Type 0} → Door A → AddressParts
door_parts door = record { joined = door.joined.items; apart = door.apart.items }

-- a host and a port
abbrev pub door_to : List ℕ → ℕ → AddressParts
door_to host port = record { joined = host ++ codes ":" ++ decimal port; apart = host ++ codes " " ++ decimal port }

-- the title that is given, and else the one of every hill; and this door
abbrev pub sign_given : {A : Type 0} → Option (List ℕ) → Option (Door A) → SignParts
sign_given title door = record { title = option_map_or (λ text. text) title TITLE.now; address = option_map door_parts door }
