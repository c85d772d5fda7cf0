use Rattle.{std.proofs.Common.{ap, map}, redcode_lines.specs.Views.line_read, redcode_warnings.{specs.Views.{has_name, notes}, proofs.Findings.all-found}}
use Rattle.redcode_warnings.proofs.finding.findings_by.Goals as goal

pub returns : goal.returns
returns g c =
    all-found (has_name c.in_ok-named.named) _ (map line_read c.args.read.now) c.args.unread.now _ _ _ _ (ap notes c.new-found.ensures.items)
    c.in_ok-named.ensures c.starts_of.ensures c.in_ok-find_missing.ensures c.in_ok-find_in_lines.ensures c.in_ok-find_unread.ensures
