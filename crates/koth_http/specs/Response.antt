-- What a browser is answered. The first line stands here together with the fields that it alone has.
use Rattle.std.specs.Prelude.{◌≡◌, ℕ, ◌≤◌, Bool, if◌then◌else◌, List, [], ◌++◌, length, codes, decimal}
use Rattle.{httparse.specs.Grammar.{ReadsRequest, RequestHead}, koth_http.specs.Asked.most_fields}
use Rattle.koth_http.specs.{Tags.{knows, tag_of}, declared.refusal.Refusal.{Refusal}, declared.target.Page.Page}

-- of a page
abbrev pub page_line : List ℕ
page_line = codes "HTTP/1.1 200 OK\r\n"

-- of a refusal
abbrev pub refusal_line : Refusal → List ℕ
refusal_line Refusal.BadRequest = codes "HTTP/1.1 400 Bad Request\r\n"
refusal_line Refusal.NotFound = codes "HTTP/1.1 404 Not Found\r\n"
refusal_line Refusal.MethodNotAllowed = codes "HTTP/1.1 405 Method Not Allowed\r\nAllow: GET, HEAD\r\n"
refusal_line Refusal.Misdirected = codes "HTTP/1.1 421 Misdirected Request\r\n"
refusal_line Refusal.HeadTooLarge = codes "HTTP/1.1 431 Request Header Fields Too Large\r\n"
refusal_line Refusal.Unavailable = codes "HTTP/1.1 503 Service Unavailable\r\n"
refusal_line Refusal.Worn = codes "HTTP/1.1 503 Service Unavailable\r\n"

-- the sentence that explains it to people
abbrev pub refusal_sentence : Refusal → List ℕ
refusal_sentence Refusal.BadRequest = codes "This is no request of HTTP."
refusal_sentence Refusal.NotFound = codes "There is no such page."
refusal_sentence Refusal.MethodNotAllowed = codes "A page can only be read."
refusal_sentence Refusal.Misdirected = codes "This hill is not served under that name: ask for its address, or have it served with --host and the name."
refusal_sentence Refusal.HeadTooLarge = codes "The head of this request is too large."
refusal_sentence Refusal.Unavailable = codes "There is no memory for this page now."
refusal_sentence Refusal.Worn = codes "This hill takes no more warriors."

-- the body of a refusal
unfoldable pub refusal_page : Refusal → List ℕ
refusal_page refusal =
    codes "<!DOCTYPE html>\n<html lang=\"en\"><title>King of the Hill</title><p>" ++ refusal_sentence refusal ++ codes "</p></html>\n"

-- what the text of a page is
abbrev pub html : List ℕ
html = codes "text/html; charset=us-ascii"

abbrev pub json : List ℕ
json = codes "application/json"

abbrev pub plain : List ℕ
plain = codes "text/plain; charset=us-ascii"

-- whether a browser may keep an answer: not at all, or by its tag, if it asks each time whether that is still the one
abbrev pub not_kept : List ℕ
not_kept = codes "no-store"

abbrev pub kept_by : List ℕ → List ℕ
kept_by tag = codes "no-cache\r\nETag: " ++ tag

-- the fields of a body of this kind and length
unfoldable pub body_fields : List ℕ → ℕ → List ℕ
body_fields kind len = codes "Content-Type: " ++ (kind ++ (codes "\r\nContent-Length: " ++ (decimal len ++ codes "\r\n")))

-- the fields of every answer, and the empty line after them
unfoldable pub fields : List ℕ → List ℕ
fields keeping =
    codes "Connection: close\r\nCache-Control: " ++ (keeping
    ++ codes "\r\nX-Content-Type-Options: nosniff\r\nContent-Security-Policy: default-src 'none'; style-src 'unsafe-inline'; script-src 'unsafe-inline'; frame-ancestors 'none'; base-uri 'none'; form-action 'none'\r\nReferrer-Policy: no-referrer\r\nCross-Origin-Resource-Policy: same-origin\r\n\r\n")

-- what is sent of a body: nothing if only the head is asked for
abbrev pub sent_of : List ℕ → Bool → List ℕ
sent_of body with_body = if with_body then body else []

-- an answer with a body of this kind, or only with its head, if that is asked for
unfoldable pub response : List ℕ → List ℕ → List ℕ → List ℕ → Bool → List ℕ
response line kind keeping body with_body = line ++ (body_fields kind (length body) ++ (fields keeping ++ sent_of body with_body))

-- an answer that has no body in any case
unfoldable pub bare_response : List ℕ → List ℕ → List ℕ
bare_response line keeping = line ++ fields keeping

-- an answer with a text that has this tag, unless the browser has it already
abbrev pub response_unless : Bool → List ℕ → List ℕ → List ℕ → Bool → List ℕ
response_unless known tag kind text with_body =
    if known then bare_response (codes "HTTP/1.1 304 Not Modified\r\n") (kept_by tag) else response page_line kind (kept_by tag) text with_body

-- the answer with a text that has a tag, to the request whose head has come in these bytes
abbrev pub IsTaggedResponse : List ℕ → List ℕ → List ℕ → Bool → List ℕ → Type 0
IsTaggedResponse bytes kind text with_body answer =
    (head : RequestHead) (rest : List ℕ) → ReadsRequest bytes head rest → length head.fields ≤ most_fields
    → answer ≡ response_unless (knows head (tag_of text)) (tag_of text) kind text with_body

-- the answer with the text of a page, to the request in these bytes
abbrev pub IsPageResponse : List ℕ → Page → List ℕ → Bool → List ℕ → Type 0
IsPageResponse bytes Page.Hill text with_body answer = IsTaggedResponse bytes html text with_body answer
IsPageResponse bytes Page.Data text with_body answer = IsTaggedResponse bytes json text with_body answer
IsPageResponse bytes Page.Health text with_body answer = answer ≡ response page_line plain not_kept text with_body
IsPageResponse bytes Page.Robots text with_body answer = answer ≡ response page_line plain not_kept text with_body
IsPageResponse bytes Page.Icon text with_body answer = answer ≡ bare_response (codes "HTTP/1.1 204 No Content\r\n") not_kept
IsPageResponse bytes (Page.Round older younger round) text with_body answer = answer ≡ response page_line html not_kept text with_body

-- why there is no text of a page: only a hill that takes no more warriors has none of its health
abbrev pub missing : Page → Refusal
missing Page.Health = Refusal.Worn
missing _ = Refusal.NotFound

-- an answer that refuses a page
abbrev pub refusal_response : Refusal → Bool → List ℕ
refusal_response refusal with_body = response (refusal_line refusal) html not_kept (refusal_page refusal) with_body
