-- The host is what the target names, or else the first field; what is asked of it follows part by part.
use Rattle.std.proofs.Common.{◌≡◌, ◌∙◌, List, ℕ, None, Option, Some, ap, map, option_map, refl, subst, unwrap_or}
use Rattle.koth_http.specs.{Asked.{asked_of, page_by, page_unless}, Host.{IsJudged, host_fault}, Target.page_named}
use Rattle.koth_http.proofs.asked.asked_of.Goals as goal

-- what is read of the host that a target names or else of the first field
read_of : {B : Type 0} (bytes : B → List ℕ) (named : Option B) (first : B) → bytes (unwrap_or named first) ≡ unwrap_or (option_map bytes named) (bytes first)
read_of bytes None first = refl
read_of bytes (Some host) first = refl

pub returns : goal.returns
unfolding asked_of
returns c =
    let own = c.is_own-own.result in
    let names = map (λ name. name.now) c.args.names.now in
    let host = ap (λ b. b.now) c.unwrap_or.ensures ∙ read_of (λ b. b.now) c.parts_of-parts.result.host c.args.hosts.first
    ∙ ap (λ o. unwrap_or o c.args.hosts.first.now) c.parts_of-parts.ensures.host in
    let page = c.asked_of_host.ensures.page
    ∙ ap (λ t. page_unless (host_fault c.args.minor c.args.hosts.count own) (page_by c.args.method.now (page_named t))) c.parts_of-parts.ensures.origin in
    let body = c.asked_of_host.ensures.body in
    (own, subst (λ host. IsJudged names host own) host c.is_own-own.ensures, (λ i. record { page = page i; with_body = body i }))
