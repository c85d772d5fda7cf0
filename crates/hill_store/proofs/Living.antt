-- Of each life there is a record: for `laws_of_lives`.
use Rattle.{std.proofs.Common.{◌≡◌, ◌⊎◌, inl, inr, ℕ, Bool, true, false, List, [], ◌∷◌, ◌++◌, Option, Some, None, refl, sym, subst}, war_types.specs.declared.settings.RawSettings.RawSettings}
use Rattle.{koth_hill.specs.{Hill.Hill, Step.new_hill}, sector_disk.specs.{Disk.{Disk, current, synced}, Image.{IsImage, Images, started}, Changes.Begun}}
use Rattle.{sector_disk.proofs.Images.{images_read, images_settled, images_sync}, hill_bytes.specs.{declared.format.Format.Format, Layout.{Layout, layout_of}}}
use Rattle.{hill_images.specs.Stands.{Stands, StandsIn}, hill_images.proofs.Newest.stands_once, hill_store.specs.Earned.{earned, step_source, steps}}
use Rattle.{hill_store.specs.{Holding.{StandsFor, StandsForIn, HoldsIn, AreDecided}, Lives.{Event, LivesIn, HasRecord, LawsOfLives}}, hill_store.proofs.Holdings.earned_more}

false_true : false ≡ true → ⊥
false_true same = cc

steps_append : (h : Hill) (xs ys : List (List ℕ)) → steps h (xs ++ ys) ≡ steps (steps h xs) ys
steps_append h [] ys = refl
steps_append h (x ∷ xs) ys = steps_append (step_source h x) xs ys

-- more sources are more steps
pub earned_list : (s : RawSettings) (xs ys : List (List ℕ)) → earned s (xs ++ ys) ≡ steps (earned s xs) ys
earned_list s xs ys = steps_append (new_hill s 0) xs ys

-- a device that starts from an image has that image alone
pub started_holds : (layout : Layout) (size : ℕ) (disk : Disk) (s : RawSettings) (sources : List (List ℕ)) (more : Option (List ℕ)) (image : ℕ → List ℕ) → IsImage disk image → HoldsIn layout size disk s sources more → HoldsIn layout size (started image) s sources more
started_holds layout size disk s sources more image is holds =
    images_settled (started image) (StandsForIn layout size s sources more) (λ n. refl) (holds image is)

-- a sync that was made, or not
pub begun_holds : (layout : Layout) (size : ℕ) (s : RawSettings) (sources : List (List ℕ)) (more : Option (List ℕ)) (old new : Disk) → HoldsIn layout size old s sources more → Begun (synced ∷ []) old new → HoldsIn layout size new s sources more
begun_holds layout size s sources more old new holds (inl same) = subst (λ d. HoldsIn layout size d s sources more) (sym same) holds
begun_holds layout size s sources more old new holds (inr same) =
    subst (λ d. HoldsIn layout size d s sources more) (sym same) (images_sync old (StandsForIn layout size s sources more) (images_read old (StandsForIn layout size s sources more) holds))

-- which sources earned the hill that an image stands for
pub record IsEarnedBy (s : RawSettings) (sources : List (List ℕ)) (more : Option (List ℕ)) (hill : Hill) : Type 0 where
  pub decided : List (List ℕ)
  pub are : AreDecided sources more decided
  pub earns : hill ≡ earned s decided

pub earned_by : (layout : Layout) (size : ℕ) (s : RawSettings) (sources : List (List ℕ)) (more : Option (List ℕ)) (image : ℕ → List ℕ) (hill : Hill) → StandsForIn layout size s sources more image → StandsIn layout size image hill → IsEarnedBy s sources more hill
earned_by layout size s sources None image hill reads stands =
    record { decided = sources; are = refl; earns = stands_once size image hill (earned s sources) stands reads }
earned_by layout size s sources (Some x) image hill (inl reads) stands =
    record { decided = sources; are = inl refl; earns = stands_once size image hill (earned s sources) stands reads }
earned_by layout size s sources (Some x) image hill (inr reads) stands =
    record { decided = sources ++ x ∷ []; are = inr refl; earns = stands_once size image hill (earned s (sources ++ x ∷ [])) stands reads }

-- by the hill that is read of a device of this format
read_by : (format : Format) (size : ℕ) (s : RawSettings) (sources : List (List ℕ)) (more : Option (List ℕ)) (old : Disk) (hill : Hill) → HoldsIn (layout_of format) size old s sources more → StandsIn (layout_of format) size (current old) hill → IsEarnedBy s sources more hill
read_by format size s sources more old hill holds stands =
    earned_by (layout_of format) size s sources more (current old) hill (images_read old (StandsForIn (layout_of format) size s sources more) holds) stands

pub lives_on : (format : Format) (size : ℕ) (s : RawSettings) (sources : List (List ℕ)) (more : Option (List ℕ)) (is_open : Bool) (old new : Disk) (events : List Event) → (is_open ≡ true → more ≡ None) → HoldsIn (layout_of format) size old s sources more → LivesIn format size is_open old events new → HasRecord format size s sources more events new
lives_on format size s sources more is_open old new [] none holds lives =
    record { found = sources; last = more; tells = (refl, refl); holds = subst (λ d. HoldsIn (layout_of format) size d s sources more) (sym lives) holds }
lives_on format size s sources more is_open old new (Event.NotOpened ∷ events) none holds lives =
    let on = lives_on format size s sources more false lives.0 new events (λ is. absurd (false_true is)) (begun_holds (layout_of format) size s sources more old lives.0 holds lives.1) lives.2 in
    record { found = on.found; last = on.last; tells = on.tells; holds = on.holds }
lives_on format size s sources more is_open old new (Event.Opened hill ∷ events) none holds lives =
    let by : IsEarnedBy s sources more hill = read_by format size s sources more old hill holds lives.0 in
    let reads : StandsIn (layout_of format) size (current old) (earned s by.decided) = subst (λ h. StandsIn (layout_of format) size (current old) h) by.earns lives.0 in
    let on = lives_on format size s by.decided None true (synced old) new events (λ is. refl) (images_sync old (StandsForIn (layout_of format) size s by.decided None) reads) lives.1 in
    record { found = on.found; last = on.last; tells = (by.decided, by.are, by.earns, on.tells); holds = on.holds }
lives_on format size s sources more is_open old new (Event.Answered xs ∷ events) none holds lives =
    let held : HoldsIn (layout_of format) size old s sources None = subst (λ m. HoldsIn (layout_of format) size old s sources m) (none lives.1) holds in
    let next : HoldsIn (layout_of format) size lives.0 s (sources ++ xs) None =
    subst (λ h. Images lives.0 (λ image. StandsIn (layout_of format) size image h)) (sym (earned_list s sources xs)) (lives.2 (earned s sources) held) in
    let on = lives_on format size s (sources ++ xs) None true lives.0 new events (λ is. refl) next lives.3 in
    record { found = on.found; last = on.last; tells = (none lives.1, on.tells); holds = on.holds }
lives_on format size s sources more is_open old new (Event.Unanswered x ∷ events) none holds lives =
    let held : HoldsIn (layout_of format) size old s sources None = subst (λ m. HoldsIn (layout_of format) size old s sources m) (none lives.1) holds in
    let next : HoldsIn (layout_of format) size lives.0 s sources (Some x) =
    subst (λ h. Images lives.0 (λ image. StandsIn (layout_of format) size image (earned s sources) ⊎ StandsIn (layout_of format) size image h)) (sym (earned_more s sources x)) (lives.2 (earned s sources) held) in
    let on = lives_on format size s sources (Some x) false lives.0 new events (λ is. absurd (false_true is)) next lives.3 in
    record { found = on.found; last = on.last; tells = (none lives.1, on.tells); holds = on.holds }
lives_on format size s sources more is_open old new (Event.Closed ∷ events) none holds lives =
    let on = lives_on format size s sources more false old new events (λ is. absurd (false_true is)) holds lives in
    record { found = on.found; last = on.last; tells = on.tells; holds = on.holds }
lives_on format size s sources more is_open old new (Event.Stopped image ∷ events) none holds lives =
    let on = lives_on format size s sources more false (started image) new events (λ is. absurd (false_true is)) (started_holds (layout_of format) size old s sources more image lives.0 holds) lives.1 in
    record { found = on.found; last = on.last; tells = on.tells; holds = on.holds }
lives_on format size s sources more is_open old new (Event.Moved moved_size moved hill ∷ events) none holds lives =
    let by : IsEarnedBy s sources more hill = read_by format size s sources more old hill holds lives.1 in
    let held = subst (λ h. Images moved (λ image. Stands moved_size image h)) by.earns lives.2 in
    let on = lives_on Format.New moved_size s by.decided None true moved new events (λ is. refl) held lives.3 in
    record { found = on.found; last = on.last; tells = (by.decided, by.are, by.earns, on.tells); holds = on.holds }
lives_on format size s sources more is_open old new (Event.MovedAtStop moved_size image hill ∷ events) none holds lives =
    let by : IsEarnedBy s sources more hill = read_by format size s sources more old hill holds lives.1 in
    let held = images_settled (started image) (StandsFor moved_size s by.decided None) (λ n. refl) (subst (λ h. Stands moved_size image h) by.earns lives.2) in
    let on = lives_on Format.New moved_size s by.decided None false (started image) new events (λ is. refl) held lives.3 in
    record { found = on.found; last = on.last; tells = (by.decided, by.are, by.earns, on.tells); holds = on.holds }

pub laws : LawsOfLives
laws = record {
  started_holds = λ format. started_holds (layout_of format);
  each_life = λ format size s old new events holds lives. lives_on format size s [] None true old new events (λ is. refl) holds lives;
}
