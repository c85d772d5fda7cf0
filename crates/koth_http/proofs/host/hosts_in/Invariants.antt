-- The fields `Host` from a place on.
use Rattle.{std.proofs.Common.{◌≡◌, ◌+◌, ◌≤◌, drop, length, map}, httparse.specs.Spans.header_bytes, koth_http.specs.Host.{first_host, host_values}}
use Rattle.koth_http.proofs.host.hosts_in.Given as goal

abbrev pub invariant-loop-at : goal.invariant-loop-at
invariant-loop-at l = record {
  first : l.first ≡ first_host (host_values (map (header_bytes l.bytes) (drop l.at l.fields)));
  count : l.count ≡ length (host_values (map (header_bytes l.bytes) (drop l.at l.fields)));
  fits : l.at + l.count ≤ length l.fields;
}
