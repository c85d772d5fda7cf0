-- What the page of a hill says that the hill doesn't know.
use Rattle.{std.specs.Prelude.{ℕ, List, Option, None, option_map}, koth_page.specs.{declared.sign.Address.Address, declared.sign.Sign.Sign, declared.sign.TheConstants.TITLE}}

-- where peers submit, in the two ways in which commands take it
pub record AddressParts : Type 0 where
  pub joined : List ℕ
  pub apart : List ℕ

-- the title, and where peers submit, if the page says so
pub record SignParts : Type 0 where
  pub title : List ℕ
  pub address : Option AddressParts

abbrev pub address_parts : Address → AddressParts
address_parts a = record { joined = a.joined.now; apart = a.apart.now }

abbrev pub sign_parts : Sign → SignParts
sign_parts s = record { title = s.title.now; address = option_map address_parts s.address }

-- a page that is given neither
abbrev pub untold : SignParts
untold = record { title = TITLE.now; address = None }
