-- The words that the lemmas share: those of sources, counters, names and refusals.
pub use Rattle.war_types.specs.declared.fault.AsmFault.{AsmFault}
pub use Rattle.war_types.specs.declared.settings.RawSettings.{RawSettings}
pub use Rattle.redcode_text.specs.Tokens.{Piece}
pub use Rattle.redcode_lines.specs.Line.{SourceLine, labels_of, behind_labels, label_tokens, names_among, is_name, has_and}
pub use Rattle.redcode_lines.specs.Block.{Blocks, Parsed, parsed, behind_by, with_body, finish, one_line, block, open_for, source_lines, behind_for, behind_rof}
pub use Rattle.redcode_copies.specs.Counter.{Counter, in_copies, counter_of, in_copy}
pub use Rattle.redcode_copies.specs.Plain.{changed_from, kept_count, number_by, plain_copy, number_of}
pub use Rattle.redcode_names.specs.Equ.{EquList, body_of, has_tokens, replaced, body_at, round, has_equ, left_over, after_rounds}
pub use Rattle.redcode_names.specs.Name.{Names, defined, all_defined, but_last, equ_defined, equ_named, equ_line, predefined, for_labels, LabelList, address_of}
pub use Rattle.redcode_text.specs.declared.vocabulary.Word.{Word}
pub use Rattle.redcode_lines.specs.declared.line.LineKind.{LineKind}
pub use Rattle.redcode_lines.specs.declared.reading.LineForm.{LineForm}
use Rattle.{std.proofs.Common.Result, redcode_expand.specs.Walk.WalkState}

abbrev pub Walked : Type 0
Walked = Result WalkState AsmFault
