-- A source that is too long is refused for that.
use Rattle.{std.proofs.Common.{◌≡◌, ℕ, ◌<◌, List, length, Err, lt-ltb}, war_types.specs.{declared.fault.AsmKind.TheVariants.SourceTooLong, declared.settings.RawSettings.RawSettings}}
use Rattle.{redcode_expand.specs.Expansion.expansion, redcode_asm.specs.Assembly.assembly}

pub too_long : (s : RawSettings) (source : List ℕ) → 65536 < length source → assembly s source ≡ Err (record { line = 0; kind = SourceTooLong })
unfolding assembly expansion
too_long s source long = rw (lt-ltb 65536 (length source) long)
