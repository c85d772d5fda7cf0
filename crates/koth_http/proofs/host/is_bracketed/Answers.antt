use Rattle.std.proofs.Common.{subst}
use Rattle.std.specs.Net.Grammar.{IsIpv6Text}
use Rattle.koth_http.proofs.host.is_bracketed.Goals as goal

pub returns-in-Ok : goal.returns-in-Ok
returns-in-Ok c = λ is.
    let (a, text) = c.writes_ipv6.ensures is in
    (c.if-host-ne91.false, c.if-host-ne93.false, (a, subst (λ t. IsIpv6Text t a) c.in-Ok.ensures.cases.0 text))
