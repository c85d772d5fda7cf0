use Rattle.{std.proofs.Common.{◌≡◌, ◌∙◌, ◌++◌, ◌∷◌, [], List, arith, ap, sym, refl, subst}, koth_match.specs.declared.bout.Bout.Bout, koth_hill.specs.Hill.member_of}
use Rattle.{koth_hill.specs.Kept.{IsKept, kept_of, members_of, rows_of, entrant_of}, koth_hill.proofs.Hills.{IsKept-put_back, few-members, put_back-is, pushed-entrant, room-left_for}}
use Rattle.koth_hill.proofs.hill.Hill.put_back.Given.{Over}
use Rattle.koth_hill.proofs.hill.Hill.put_back.Goals as goal

pub of-requires : goal.of-requires
of-requires g c =
    let is : IsKept c.args.self.now = subst IsKept c.self.view_is c.self.invariant.0 in
    omega (arith, c.requires.each, few-members c.args.self.now is)

-- those on the hill after the push
items : (g : Over) (c : goal.Joined-push g) → c.push.new.self.items ≡ c.self.inside.members.items ++ c.new.result ∷ []
items g c =
    let es = c.self.inside.members.items in
    pushed-entrant c.push.result es (es ++ c.new.result ∷ []) c.push.new.self.items
    (c.push.ensures.succeeds (room-left_for (kept_of c.self.inside.settings c.self.inside.counter (members_of es) (rows_of es)) es _ _ c.self.invariant.0 refl c.self.inside.members.ok.0 c.self.invariant.1))
    c.push.ensures.items

pub returns : goal.returns
returns g c =
    let es = c.self.inside.members.items in
    put_back-is (kept_of c.self.inside.settings c.self.inside.counter (members_of es) (rows_of es)) c.args.self.now es c.push.new.self.items c.new.result
    c.args.entry c.args.age c.args.warrior c.args.bouts.now c.self.view_is refl refl
    (c.new.ensures ∙ ap (λ (bs : List Bout). entrant_of (member_of c.args.entry c.args.age c.args.warrior) bs) c.of.ensures) (items g c)

pub invariant_of-self : goal.invariant_of-self
invariant_of-self g c =
    let is : IsKept c.args.self.now = subst IsKept c.self.view_is c.self.invariant.0 in (
      subst IsKept (sym (returns g c))
          (IsKept-put_back c.args.self.now c.args.entry c.args.age c.args.warrior c.args.bouts.now is c.requires.room c.requires.entry c.requires.counted c.requires.age c.requires.fits c.requires.each c.requires.rounds),
      omega (arith, c.push.ensures.capacity, c.self.invariant.1),
    )
