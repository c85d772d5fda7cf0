-- What a browser asks, by the bytes that came from it.
use Rattle.std.specs.{Prelude.{◌≡◌, ◌⊎◌, ℕ, ◌<◌, ◌≤◌, Bool, true, ◌||◌, not, if◌then◌else◌, List, length, Option, None, Some, Result, Ok, Err, codes}, Str.bytes_eq}
use Rattle.httparse.specs.{Grammar.{HasNoRequest, MayBecomeRequest, NeverHasRequest, ReadsRequest, RequestHead}, Spans.{RequestExceeds, RequestOverflows}}
use Rattle.koth_http.specs.{declared.asked.Asked.Asked, declared.refusal.Refusal.Refusal, declared.target.Page.Page, Host.{IsJudged, host_fault, host_of, hosts_of, origin_of}, Target.page_named}

-- bytes of a head, and fields in it
abbrev pub most_bytes : ℕ
most_bytes = 8192

abbrev pub most_fields : ℕ
most_fields = 64

-- the methods that read a page
abbrev pub is_reading : List ℕ → Bool
is_reading method = bytes_eq method (codes "GET") || bytes_eq method (codes "HEAD")

-- the page that a method may have
abbrev pub page_by : List ℕ → Option Page → Result Page Refusal
page_by method None = Err Refusal.NotFound
page_by method (Some page) = if is_reading method then Ok page else Err Refusal.MethodNotAllowed

-- the page, unless there is a reason against it
abbrev pub page_unless : Option Refusal → Result Page Refusal → Result Page Refusal
page_unless None page = page
page_unless (Some refusal) page = Err refusal

-- what a method of HTTP/1.MINOR asks of a target, with this number of fields `Host` and a host that is this machine's or isn't: all but `HEAD`
-- ask for a body
unfoldable pub asked_of : ℕ → ℕ → Bool → List ℕ → List ℕ → Asked
asked_of minor count own method target = record {
  page = page_unless (host_fault minor count own) (page_by method (page_named (origin_of target)));
  with_body = not (bytes_eq method (codes "HEAD"));
}

-- what a request asks, if its host is one of these names' or else this machine's
abbrev pub IsAskedBy : List (List ℕ) → RequestHead → Asked → Type 0
IsAskedBy names head asked =
    (own : Bool) × IsJudged names (host_of head) own × (asked ≡ asked_of head.minor (length (hosts_of head)) own head.method head.target)

-- what is answered to bytes that are no request
abbrev pub refused : Refusal → Asked
refused refusal = record { page = Err refusal; with_body = true }

-- a whole head has come, and this is what it asks
abbrev pub IsRead : List (List ℕ) → List ℕ → Asked → Type 0
IsRead names bytes asked =
    (head : RequestHead) × (rest : List ℕ) × ReadsRequest bytes head rest × (length head.fields ≤ most_fields) × IsAskedBy names head asked

-- no bytes that follow can make it a request
abbrev pub IsBad : List ℕ → Asked → Type 0
IsBad bytes asked = NeverHasRequest bytes × (asked ≡ refused Refusal.BadRequest)

-- it has too many fields, or as many bytes as there may be and no whole head
abbrev pub IsTooLarge : List ℕ → Type 0
IsTooLarge bytes =
    (RequestExceeds most_fields bytes × RequestOverflows most_fields bytes)
    ⊎ (HasNoRequest bytes × MayBecomeRequest bytes × (length bytes ≡ most_bytes))

abbrev pub IsLarge : List ℕ → Asked → Type 0
IsLarge bytes asked = IsTooLarge bytes × (asked ≡ refused Refusal.HeadTooLarge)

-- what the bytes that came ask of a hill with these names; `None` while they may become a request that is small enough
abbrev pub IsAsked : List (List ℕ) → List ℕ → Option Asked → Type 0
IsAsked names bytes None = HasNoRequest bytes × MayBecomeRequest bytes × (length bytes < most_bytes)
IsAsked names bytes (Some asked) = IsRead names bytes asked ⊎ (IsBad bytes asked ⊎ IsLarge bytes asked)

-- a whole head without too many fields gives what it asks
abbrev pub FindsAsked : List (List ℕ) → List ℕ → Option Asked → Type 0
FindsAsked names bytes asked =
    (head : RequestHead) (rest : List ℕ) → ReadsRequest bytes head rest → length head.fields ≤ most_fields
    → (found : Asked) × (asked ≡ Some found) × IsAskedBy names head found
