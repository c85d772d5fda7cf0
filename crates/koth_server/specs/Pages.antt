-- The pages that browsers ask for.
use Rattle.std.specs.Prelude.{◌≡◌, ⊤, ℕ, ◌-◌, ◌^◌, ◌<◌, Bool, true, false, List, [], ◌++◌, Some, slice_get, codes, decimal}
use Rattle.{war_types.specs.Warrior.WarriorParts, koth_hill.specs.{Hill.{Member, member_of}, Kept.Kept}, koth_http.specs.declared.target.Page.Page}
use Rattle.{koth_page.specs.{Page.hill_page, Sign.SignParts, declared.links.Links.Links}, koth_rounds.specs.{Asked.has_round, Page.IsRoundText}}
use Rattle.{koth_json.specs.Data.data_text, koth_words.specs.Settings.given_as}

-- this warrior is on the hill, under this entry
pub record HasWarrior (members : List Member) (entry : ℕ) (warrior : WarriorParts) : Type 0 where
  pub place : ℕ
  pub age : ℕ
  pub stands : slice_get members place ≡ Some (member_of entry age warrior)

-- a warrior on the hill has this entry
abbrev pub IsOnHill : List Member → ℕ → Type 0
IsOnHill members entry = (warrior : WarriorParts) × HasWarrior members entry warrior

-- a hill has this round, counted from 1, of the match of the warriors with these entries, the older one first
pub record HasRound (hill : Kept) (older younger round : ℕ) : Type 0 where
  pub rising : older < younger
  pub counted : has_round hill.settings round ≡ true
  pub older_stands : IsOnHill hill.members older
  pub younger_stands : IsOnHill hill.members younger

-- what the hill's page leads to in a service: to rounds if they are served
abbrev pub links_for : Bool → Links
links_for true = Links.Rounds
links_for false = Links.None

-- a hill takes warriors: not as many were judged as can be counted
abbrev pub TakesWarriors : Kept → Type 0
TakesWarriors hill = hill.counter < 2 ^ 64 - 1

-- a hill has this page: its health if it takes warriors, rounds if its page links to them, and all others in any case
abbrev pub HasPage : Links → Kept → Page → Type 0
HasPage links hill Page.Hill = ⊤
HasPage links hill Page.Data = ⊤
HasPage links hill Page.Health = TakesWarriors hill
HasPage links hill Page.Robots = ⊤
HasPage links hill Page.Icon = ⊤
HasPage Links.Rounds hill (Page.Round older younger round) = HasRound hill older younger round
HasPage Links.None hill (Page.Round older younger round) = ⊥

-- the text is the page of a round, counted from 1, of the match of the warriors with these entries on a hill, the older
-- one first
pub record IsRoundOf (hill : Kept) (older younger round : ℕ) (text : List ℕ) : Type 0 where
  pub rising : older < younger
  pub counted : has_round hill.settings round ≡ true
  pub first : WarriorParts
  pub second : WarriorParts
  pub first_stands : HasWarrior hill.members older first
  pub second_stands : HasWarrior hill.members younger second
  pub shown : IsRoundText hill.settings first second round text

-- the hill as an object for programs, with its settings as options give them
abbrev pub hill_data : Kept → List ℕ
hill_data hill = data_text (given_as hill.settings) hill

-- how many warriors it has judged
abbrev pub health_text : ℕ → List ℕ
health_text judged = codes "judged " ++ (decimal judged ++ codes "\n")

-- programs that follow links are not to ask for rounds
abbrev pub robots_text : List ℕ
robots_text = codes "User-agent: *\nDisallow: /replay/\n"

-- the text of a page of a hill with this sign: of a round if the hill's page links to rounds, and else of none
abbrev pub IsShown : SignParts → Links → Kept → Page → List ℕ → Type 0
IsShown sign links hill Page.Hill text = text ≡ hill_page hill sign links
IsShown sign links hill Page.Data text = text ≡ hill_data hill
IsShown sign links hill Page.Health text = TakesWarriors hill × (text ≡ health_text hill.counter)
IsShown sign links hill Page.Robots text = text ≡ robots_text
IsShown sign links hill Page.Icon text = text ≡ []
IsShown sign Links.Rounds hill (Page.Round older younger round) text = IsRoundOf hill older younger round text
IsShown sign Links.None hill (Page.Round older younger round) text = ⊥
