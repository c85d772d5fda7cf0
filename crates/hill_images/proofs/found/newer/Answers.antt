use Rattle.{std.proofs.Common.subst, hill_images.specs.Found.IsFoundIn, hill_images.proofs.Finds.{newest_even_alone, newest_odd_found}}
use Rattle.hill_images.proofs.found.newer.Goals as goal

pub returns-in-Some-Some : goal.returns-in-Some-Some
returns-in-Some-Some c = λ layout. λ image. λ even. λ odd.
    c.later.ensures layout image (subst (λ h. IsFoundIn layout 0 (image 0) h) c.in-Some-Some.is-0 even) (subst (λ h. IsFoundIn layout 1 (image 1) h) c.in-Some-Some.is-1 odd)

pub returns-in-Some-None : goal.returns-in-Some-None
returns-in-Some-None c = λ layout. λ image. λ even. λ odd.
    newest_even_alone layout image c.in-Some-None.even (subst (λ h. IsFoundIn layout 0 (image 0) h) c.in-Some-None.is-0 even) (subst (λ h. IsFoundIn layout 1 (image 1) h) c.in-Some-None.is-1 odd)

pub returns-in-None-default : goal.returns-in-None-default
returns-in-None-default c = λ layout. λ image. λ even. λ odd.
    newest_odd_found layout image c.args.odd (subst (λ h. IsFoundIn layout 0 (image 0) h) c.in-None-default.is-0 even) odd
