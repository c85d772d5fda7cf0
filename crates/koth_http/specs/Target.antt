-- Which page the target of a request names.
use Rattle.std.specs.{Prelude.{⊤, ℕ, ◌<◌, ◌^◌, ◌==◌, nat_lt, Bool, ◌&&◌, if◌then◌else◌, List, ◌++◌, take, drop, Option, None, Some, codes, decimal}, List.{before_first, after_first}}
use Rattle.{std.specs.{Str.{byte, bytes_eq}, Str.Parse.digits_value}, koth_http.specs.declared.target.Page.Page}

-- how the target of a page is written
unfoldable pub target_for : Page → List ℕ
target_for Page.Hill = codes "/"
target_for Page.Data = codes "/hill.json"
target_for Page.Health = codes "/health"
target_for Page.Robots = codes "/robots.txt"
target_for Page.Icon = codes "/favicon.ico"
target_for (Page.Round older younger round) = codes "/replay/" ++ (decimal older ++ (codes "/" ++ (decimal younger ++ (codes "/" ++ decimal round))))

-- a page whose numbers are in their ranges
abbrev pub IsPage : Page → Type 0
IsPage (Page.Round older younger round) = (older < 2 ^ 64) × (younger < 2 ^ 64) × (round < 2 ^ 32)
IsPage _ = ⊤

-- the number below the limit that a text writes in decimal digits, without a sign and without leading zeros
unfoldable pub number_of : ℕ → List ℕ → Option ℕ
number_of limit text =
    let n = digits_value 10 text in
    if nat_lt n limit && bytes_eq (decimal n) text then Some n else None

abbrev pub is_slash : ℕ → Bool
is_slash b = b == byte "/"

abbrev pub is_question : ℕ → Bool
is_question b = b == byte "?"

-- a round, if there are its three numbers
abbrev pub round_by : Option ℕ → Option ℕ → Option ℕ → Option Page
round_by (Some older) (Some younger) (Some round) = Some (Page.Round older younger round)
round_by older younger round = None

-- the round that a text writes: the entries of the older warrior and of the younger, and the round, with slashes between them
unfoldable pub round_of : List ℕ → Option Page
round_of text =
    let rest = after_first is_slash text in
    round_by (number_of (2 ^ 64) (before_first is_slash text)) (number_of (2 ^ 64) (before_first is_slash rest)) (number_of (2 ^ 32) (after_first is_slash rest))

-- the page of which there is only one, by its path
unfoldable pub single_of : List ℕ → Option Page
single_of path =
    if bytes_eq path (codes "/") then Some Page.Hill else (
    if bytes_eq path (codes "/hill.json") then Some Page.Data else (
    if bytes_eq path (codes "/health") then Some Page.Health else (
    if bytes_eq path (codes "/robots.txt") then Some Page.Robots else (
    if bytes_eq path (codes "/favicon.ico") then Some Page.Icon else None))))

-- this page, or else the round of a path
abbrev pub or_round : Option Page → List ℕ → Option Page
or_round (Some page) path = Some page
or_round None path = if bytes_eq (take 8 path) (codes "/replay/") then round_of (drop 8 path) else None

-- the page of a target without a query
unfoldable pub page_of : List ℕ → Option Page
page_of path = or_round (single_of path) path

-- a target without its query
abbrev pub path_of : List ℕ → List ℕ
path_of target = before_first is_question target

-- the page that a target names
abbrev pub page_named : List ℕ → Option Page
page_named target = page_of (path_of target)
