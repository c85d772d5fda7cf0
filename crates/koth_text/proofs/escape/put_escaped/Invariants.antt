-- What is put, with what stands for the bytes that are left, is what stands for all of them.
use Rattle.{std.proofs.Common.{◌≡◌, ◌++◌}, std.specs.Str.Chunks.utf8_chunks_rest, koth_text.specs.Escape.escaped}
use Rattle.koth_text.proofs.escape.put_escaped.Given as goal

abbrev pub invariant-loop-chunk : goal.invariant-loop-chunk
invariant-loop-chunk g l = l.page.items ++ escaped (utf8_chunks_rest l.chunk-iterator) ≡ l.fn.page.items ++ escaped l.fn.text
