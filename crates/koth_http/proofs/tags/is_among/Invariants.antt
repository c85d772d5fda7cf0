-- The fields from a place on.
use Rattle.{std.proofs.Common.{◌≡◌, drop, map}, std.specs.List.list_any, httparse.specs.Spans.header_bytes, koth_http.specs.Tags.names_tag}
use Rattle.koth_http.proofs.tags.is_among.Given as goal

abbrev pub invariant-loop-at : goal.invariant-loop-at
invariant-loop-at l = l.is_found ≡ list_any (names_tag l.tag) (map (header_bytes l.bytes) (drop l.at l.fields))
