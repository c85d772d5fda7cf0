use Rattle.std.proofs.Common.{◌≡◌, map, take}
use Rattle.koth_words.specs.Sources.{place, place_at}
use Rattle.koth_words.proofs.sources.sources_named.Given as goal

abbrev pub invariant-loop-word : goal.invariant-loop-word
invariant-loop-word l = map place l.sources.items ≡ map (λ word. place_at l.called word.now) (take l.word-index l.word-items)
