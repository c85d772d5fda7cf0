-- What clap says of its commands holds of the program's words.
use Rattle.{std.proofs.Common.{IfOk, inl, inr, subst, sym}, koth_words.specs.Words.{AreClear, AsksBy, IsHelp}}
use Rattle.koth_words.proofs.Named.{found, given_found, given_named, gives_command, help_kind, helps, memory_kind, no_fault, not_wrong, wrong_kind}
use Rattle.koth_words.proofs.words.parse.Goals as goal

pub request_of-requires : goal.request_of-requires
request_of-requires c =
    let parsed = c.in-Ok-try_get_matches_from.ensures in
    gives_command _ _ _ c.in-Ok.ensures.0 parsed.matches parsed.kinds

pub returns-in-Ok-try_get_matches_from-clause-request :
    goal.returns-in-Ok-try_get_matches_from-clause-request
returns-in-Ok-try_get_matches_from-clause-request c =
    subst (λ e. IfOk c.request_of.result (AsksBy e)) (found _ _ _ c.in-Ok.ensures.0 c.in-Ok-try_get_matches_from.ensures.matches) c.request_of.ensures.request

pub returns-in-Ok-try_get_matches_from-clause-wrong :
    goal.returns-in-Ok-try_get_matches_from-clause-wrong
returns-in-Ok-try_get_matches_from-clause-wrong c (inl fault) =
    absurd (not_wrong _ _ c.in-Ok.ensures.0 c.in-Ok-try_get_matches_from.ensures.kinds fault)
returns-in-Ok-try_get_matches_from-clause-wrong c (inr unclear) =
    c.request_of.ensures.wrong (λ clear. unclear.1 (given_named _ _ _ (AreClear c.args.view) c.in-Ok.ensures.0 c.in-Ok-try_get_matches_from.ensures.matches clear))

pub returns-in-Err-try_get_matches_from-clause-wrong :
    goal.returns-in-Err-try_get_matches_from-clause-wrong
returns-in-Err-try_get_matches_from-clause-wrong c wrong =
    let (no_help, no_version) = wrong_kind _ _ _ c.in-Err-try_get_matches_from.error c.in-Ok.ensures.0 c.in-Err-try_get_matches_from.ensures.kinds wrong in
    c.no_request.ensures.wrong no_help no_version

pub returns-in-Ok-try_get_matches_from-clause-taken :
    goal.returns-in-Ok-try_get_matches_from-clause-taken
returns-in-Ok-try_get_matches_from-clause-taken c taken =
    c.request_of.ensures.taken (given_found _ _ _ (AreClear c.args.view) c.in-Ok.ensures.0 c.in-Ok-try_get_matches_from.ensures.matches taken.1)

pub returns-in-Err-try_get_matches_from-clause-taken :
    goal.returns-in-Err-try_get_matches_from-clause-taken
returns-in-Err-try_get_matches_from-clause-taken c taken =
    c.no_request.ensures.memory (memory_kind _ _ _ c.in-Err-try_get_matches_from.error c.in-Ok.ensures.0 c.in-Err-try_get_matches_from.ensures.passes taken)

pub returns-in-Ok-try_get_matches_from-clause-help :
    goal.returns-in-Ok-try_get_matches_from-clause-help
returns-in-Ok-try_get_matches_from-clause-help c asks =
    absurd (helps _ asks (no_fault _ _ c.in-Ok.ensures.0 c.in-Ok-try_get_matches_from.ensures.kinds))

pub returns-in-Err-try_get_matches_from-clause-help :
    goal.returns-in-Err-try_get_matches_from-clause-help
returns-in-Err-try_get_matches_from-clause-help c asks =
    elim (help_kind _ _ c.in-Err-try_get_matches_from.error c.in-Ok.ensures.0 c.in-Err-try_get_matches_from.ensures.kinds asks) [
      | inl memory ↦ subst IsHelp (sym (c.no_request.ensures.memory memory)) tt
      | inr help ↦ c.no_request.ensures.help help
    ]
