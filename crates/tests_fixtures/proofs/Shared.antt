-- The names that both walks cite, and what they share: the arguments of the type, and the allocator inside.
pub use Rattle.std.proofs.Common.{◌≡◌, ℕ, ◌+◌, ◌^◌, ◌<◌, Bool, true, false, List, [], ◌∷◌, Ok, Err, refl, w64, Bor}
pub use Rattle.std.proofs.alloc.Calls.{Al, α, seen}
pub use seplogic.Ra.Ura.{Ura}
pub use mir.Syntax.{Ty, Args, Fn, a_type, dnil, dcons}
pub use mir.Val.{Val, vunit, vbool, vint, vptr}
pub use mir.MapTy.{inst_fn}
pub use base.Logic.{SProp, ent, id⊢}
pub use base.Fml.{Lft, Share, ftrue, ffalse, fsep, flft}
pub use prog.Memory.{Memory, size, align, capped, up}
pub use prog.Routine.{Routine}
pub use prog.Wp.{WpFn, Tables}
pub use types.Logic.{Logic}
pub use types.Kit.{‵, raw, ◌⊛◌, some, later, given, prop, at_ret, Sq, Item, ◌$◌, ◌∵◌, !, qed, by, done, move, keep, drop, use0, use1, use2, split, split3, join, learn, pick, fsplit, fjoin, feq_i, suffices, await}
pub use types.Part.{agg}
pub use types.Run.{stop, fld, addr, lit, unit_lit, of_opd, no_more, and_then, first, branches, skips, exec, returns, returns_within, enter}
pub use types.ByLocal.{alloc_all, pass_all, free_all, look_at, get, through, sets, lands_as, env}
pub use contract.BorrowLft.{◌⊑◌, ⊑_trans}
pub use contract.Monad.{Fun, fact}
pub use contract.Running.{tables}
pub use sound.WpLaws.{fm_of, WpFn-mono}
pub use denote.Builtin.{usize, RawPtr, RefOf}
pub use denote.Exit.{yes}
pub use denote.Opens.{unhide}
pub use denote.Param.{bounded, param}
pub use denote.Plain.{uint_vals, uint_Tells}
pub use denote.RattleType.{owns}
pub use denote.RawPtr.{Ptr, block_ptr, null_ptr, ptr_val, rawptr_vals, rawptr_Tells}
pub use denote.Ref.{shr_vals}
pub use denote.Signature.{Slot, plain, types_at}
pub use denote.Steps.{heard, nothing}
pub use denote.Triple.Call.{calls_at}
pub use denote.Triple.Clauses.{Ended, Clauses}
pub use denote.Triple.Spec.{triple_of}
pub use denote.Triple.Statement.{Triple}
pub use denote.Triple.Table.{entered, cited}
pub use denote.Triple.Walked.{Stays, stay_dropped, walk_of, ends_at, walked, Goes-dropped, walk_Meets}
use Rattle.tests_fixtures.specs.contracts.Refusing as wrapper

module _ (Z : Al) where
  -- the type's parameter, with the inner allocator's methods and its drop
  abbrev pub given_by : Args
  given_by = bounded (a_type ∷ []) (Z.row, tt) (dcons Z.d (dcons Z.drops dnil))

  abbrev pub by_ref : Slot 2
  by_ref = RefOf (0 ∷ []) tt (plain (λ _. wrapper.the_row (param 0 Z.row))) (λ _. tt)

  -- where the first field lies, and the second after it
  abbrev pub inner_at : ℕ × ℕ → ℕ × ℕ
  inner_at r = (r.0, r.1 + up (align (α Z)) 0)

  abbrev pub plan_at : ℕ × ℕ → ℕ × ℕ
  plan_at r = (r.0, r.1 + up 8 (up (align (α Z)) 0 + size (α Z)))
