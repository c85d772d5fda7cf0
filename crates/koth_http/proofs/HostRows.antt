-- Hosts, targets and faults, computed.
use Rattle.std.proofs.Common.{◌≡◌, true, false, [], ◌∷◌, Some, None, codes, map, refl}
use Rattle.koth_http.specs.{Host.{has_name, host_by, host_fault, host_named, host_values, origin_of}, declared.refusal.Refusal.Refusal}

-- a name, in either case, with a port or without, and with a dot at its end or without; of the last host what follows the name is no port, and another
-- machine's has a user before it
names : map (λ host. has_name host (codes "localhost"))
    (codes "LocalHost:80" ∷ codes "localhost." ∷ codes "localhost.:80" ∷ codes "localhost:" ∷ codes "localhost.." ∷ codes "localhost:80." ∷ codes "localhost.evil"
    ∷ codes "evil.localhost" ∷ [] ∷ codes "localhost:x@evil.example" ∷ codes "localhost:evil" ∷ [])
    ≡ true ∷ true ∷ true ∷ true ∷ false ∷ false ∷ false ∷ false ∷ false ∷ false ∷ false ∷ []
names = refl

-- the host of a target, and what the target asks of it
hosts : map host_named (codes "http://here:80/x" ∷ codes "HTTP://here" ∷ codes "/" ∷ []) ≡ Some (codes "here:80") ∷ Some (codes "here") ∷ None ∷ []
hosts = refl

origins : map origin_of (codes "http://here" ∷ codes "http://here/x?y" ∷ codes "/x" ∷ []) ≡ codes "/" ∷ codes "/x?y" ∷ codes "/x" ∷ []
origins = refl

-- the host of the target counts, and else that of the field
hosts_by : map (λ target. host_by target (codes "here")) (codes "http://there/" ∷ codes "/" ∷ []) ≡ codes "there" ∷ codes "here" ∷ []
hosts_by = refl

-- the fields
fields_of_two : host_values ((codes "HOST", codes "here") ∷ (codes "Accept", codes "*/*") ∷ (codes "host", codes "there") ∷ []) ≡ codes "here" ∷ codes "there" ∷ []
fields_of_two = refl

-- HTTP/1.1 has one field, HTTP/1.0 at most one
faults : host_fault 1 1 true ∷ host_fault 1 1 false ∷ host_fault 1 2 true ∷ host_fault 1 0 true ∷ host_fault 0 0 false ∷ host_fault 0 2 true ∷ []
    ≡ None ∷ Some Refusal.Misdirected ∷ Some Refusal.BadRequest ∷ Some Refusal.BadRequest ∷ Some Refusal.Misdirected ∷ Some Refusal.BadRequest ∷ []
faults = refl
