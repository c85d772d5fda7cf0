-- What is found of standings is the verdict by what is known.
use Rattle.{std.proofs.Common.{◌≡◌, ℕ, ◌+◌, true, false, List, [], ◌∷◌, ◌++◌, length, sym, ap, ap₂, ◌∙◌, Option, None, Some, inl, inr}, std.specs.Prelude.{if◌then◌else◌, nat_lt}}
use Rattle.{std.proofs.{lemmas.Bool.{cond-true, cond-false, eqb-true, cases_Bool}, lemmas.List.map-append}, war_types.specs.Warrior.WarriorParts, koth_match.specs.declared.bout.Bout.Bout}
use Rattle.koth_hill.specs.{declared.score.Score.Score, declared.verdict.Verdict.Verdict, Hill.{Member, Hill}, Scores.{scores_of, rank_among, last_among}}
use Rattle.koth_hill.specs.{Step.{challenger, enlarged, falling_by, is_entry, without, one_older, after_stay, verdict_by}, Kept.entries_of}
use Rattle.koth_hill.specs.Standings.{StandingParts, points_among, left, score_among, scores_among}
use Rattle.koth_hill.proofs.{ByEntry.{by_entry, points-entries, scores-entries, left-None, left-entries, left-append, entries-older}, Verdicts.{verdict-placed, verdict-fallen}}

abbrev pub falling_in : (ℕ → ℕ → Bout) → List ℕ → ℕ → ℕ → Option ℕ
falling_in r es n capacity =
    let scores = scores_among r (left None es) in
    if nat_lt capacity n then last_among scores scores else None

abbrev pub fallen_in : (ℕ → ℕ → Bout) → List ℕ → StandingParts → Verdict
fallen_in r es own =
    record { entry = own.entry; stays = false; falls = Some own.entry; score = points_among r (left None es) own.entry; rank = 0; bouts = own.bouts }

abbrev pub placed_in : (ℕ → ℕ → Bout) → List ℕ → StandingParts → Option ℕ → Verdict
placed_in r all own falls =
    let es = left falls all in
    record { entry = own.entry; stays = true; falls = falls; score = points_among r es own.entry; rank = rank_among (scores_among r es) (score_among r es own.entry); bouts = own.bouts }

-- the verdict on one entry among these
abbrev pub judged_in : (ℕ → ℕ → Bout) → List ℕ → ℕ → ℕ → StandingParts → Verdict
judged_in r es n capacity own =
    if is_entry own.entry (falling_in r es n capacity) then fallen_in r es own else placed_in r es own (falling_in r es n capacity)

module _ (r : ℕ → ℕ → Bout) (bouts : List Bout) (h : Hill) (w : WarriorParts) where
  abbrev all : List ℕ
  all = entries_of (enlarged h w)

  abbrev own : StandingParts
  own = record { entry = h.counter + 1; bouts = bouts }

  scores-all : scores_among r (left None all) ≡ scores_of (by_entry r) (enlarged h w)
  scores-all = ap (scores_among r) (left-None all) ∙ sym (scores-entries r (enlarged h w))

  falling-found : falling_in r all (length (enlarged h w)) h.settings.capacity ≡ falling_by (by_entry r) h w
  falling-found = ap (λ (xs : List Score). if nat_lt h.settings.capacity (length (enlarged h w)) then last_among xs xs else None) scores-all

  some-entry : (entry : ℕ) (o : Option ℕ) → is_entry entry o ≡ true → Some entry ≡ o
  some-entry entry None e = cc
  some-entry entry (Some n) e = ap (λ (k : ℕ). Some k) (eqb-true entry n e)

  fallen-found : is_entry (h.counter + 1) (falling_by (by_entry r) h w) ≡ true → fallen_in r all own ≡ verdict_by (by_entry r) bouts h w
  fallen-found goes =
      ap₂ (λ (o : Option ℕ) (n : ℕ). record { entry = h.counter + 1; stays = false; falls = o; score = n; rank = 0; bouts = bouts })
      (some-entry (h.counter + 1) (falling_by (by_entry r) h w) goes)
      (ap (λ (es : List ℕ). points_among r es (h.counter + 1)) (left-None all) ∙ sym (points-entries r (enlarged h w) (challenger h w)))
      ∙ sym (verdict-fallen (by_entry r) bouts h w (cond-true (is_entry (h.counter + 1) (falling_by (by_entry r) h w)) false true goes))

  -- those that are left are those of the new hill
  left-new : (fallen : Option ℕ) → is_entry (h.counter + 1) fallen ≡ false → left fallen all ≡ entries_of (after_stay h w fallen).members
  left-new fallen keeps =
      ap (left fallen) (map-append (λ (m : Member). m.entry) h.members (challenger h w ∷ []))
      ∙ left-append fallen (entries_of h.members) ((h.counter + 1) ∷ [])
      ∙ ap₂ (λ (xs ys : List ℕ). xs ++ ys) (left-entries fallen h.members ∙ sym (entries-older (without fallen h.members)))
      (cond-false (is_entry (h.counter + 1) fallen) [] ((h.counter + 1) ∷ []) keeps)
      ∙ sym (map-append (λ (m : Member). m.entry) (one_older (without fallen h.members)) (challenger h w ∷ []))

  placed-found : is_entry (h.counter + 1) (falling_by (by_entry r) h w) ≡ false → placed_in r all own (falling_by (by_entry r) h w) ≡ verdict_by (by_entry r) bouts h w
  placed-found keeps =
      ap (λ (es : List ℕ). record {
        entry = h.counter + 1;
        stays = true;
        falls = fall;
        score = points_among r es (h.counter + 1);
        rank = rank_among (scores_among r es) (score_among r es (h.counter + 1));
        bouts = bouts;
      }) (left-new fall keeps)
      ∙ ap₂ (λ (n : ℕ) (xs : List Score). record {
        entry = h.counter + 1;
        stays = true;
        falls = fall;
        score = n;
        rank = rank_among xs (record { entry = h.counter + 1; points = n });
        bouts = bouts;
      }) (sym (points-entries r new (challenger h w))) (sym (scores-entries r new))
      ∙ sym (verdict-placed (by_entry r) bouts h w (cond-false (is_entry (h.counter + 1) fall) false true keeps))
    where
      fall : Option ℕ
      fall = falling_by (by_entry r) h w

      new : List Member
      new = (after_stay h w fall).members

  pub judged-found : judged_in r all (length (enlarged h w)) h.settings.capacity own ≡ verdict_by (by_entry r) bouts h w
  judged-found =
      ap (λ (o : Option ℕ). if is_entry (h.counter + 1) o then fallen_in r all own else placed_in r all own o) falling-found
      ∙ elim (cases_Bool (is_entry (h.counter + 1) (falling_by (by_entry r) h w))) [
        | inl goes ↦ cond-true (is_entry (h.counter + 1) (falling_by (by_entry r) h w)) (fallen_in r all own) (placed_in r all own (falling_by (by_entry r) h w)) goes ∙ fallen-found goes
        | inr keeps ↦ cond-false (is_entry (h.counter + 1) (falling_by (by_entry r) h w)) (fallen_in r all own) (placed_in r all own (falling_by (by_entry r) h w)) keeps ∙ placed-found keeps
      ]
