use Rattle.{std.proofs.Common.{◌∙◌, ap}, koth_http.specs.Target.{page_of, path_of}, koth_http.proofs.Targets.{answer-reads, page-found}}
use Rattle.koth_http.proofs.target.page_named.Goals as goal

pub returns-clause-written : goal.returns-clause-written
returns-clause-written c = answer-reads (path_of c.args.target.now) c.page_of.result (c.page_of.ensures ∙ ap page_of c.cut.ensures.before)

pub returns-clause-found : goal.returns-clause-found
returns-clause-found c = λ page is written. c.page_of.ensures ∙ ap page_of (c.cut.ensures.before ∙ written) ∙ page-found page is
