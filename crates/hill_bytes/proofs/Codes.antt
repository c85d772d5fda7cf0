-- Bytes say which header they are of, and sectors which warrior they hold.
use Rattle.{std.proofs.{Common.{◌≡◌, ℕ, ◌^◌, ◌<◌, ◌≤◌, List, [], ◌++◌, length, take, sym, ap, ◌∙◌}, Math.Seq.take-append_seam, lemmas.List.append_cancel_left}, std.specs.Int.bytes_high_first}
use Rattle.{byteorder.specs.{Endian.big_from, Numbers.big_number-reads_back}, war_types.specs.{declared.settings.RawSettings.RawSettings, Settings.AreSettings, Warrior.WarriorParts}}
use Rattle.{hill_bytes.specs.Layout.{Layout, HeaderParts, IsHeader, IsSlot, code_room}, hill_bytes.proofs.{OneHeader.same_header, OneSlot.same_warrior}}

-- if two lists of one length are equal with something after them, they are equal, and so is what stands after
pub front_same : {X : Type 0} (xs ys us vs : List X) → length xs ≡ length ys → xs ++ us ≡ ys ++ vs → xs ≡ ys
front_same xs ys us vs same e = sym (take-append_seam xs us) ∙ ap (λ n. take n (xs ++ us)) same ∙ ap (take (length ys)) e ∙ take-append_seam ys vs

pub back_same : {X : Type 0} (xs ys us vs : List X) → length xs ≡ length ys → xs ++ us ≡ ys ++ vs → us ≡ vs
back_same xs ys us vs same e = append_cancel_left ys us vs (ap (λ zs. zs ++ us) (sym (front_same xs ys us vs same e)) ∙ e)

-- a number is what its bytes are read as
pub bytes_same : (k a b : ℕ) → a < 256 ^ k → b < 256 ^ k → bytes_high_first k a ≡ bytes_high_first k b → a ≡ b
bytes_same k a b below_a below_b e =
    sym (big_number-reads_back k a [] below_a) ∙ ap (λ bytes. big_from 0 k (bytes ++ [])) e ∙ big_number-reads_back k b [] below_b

-- one header at most has these bytes
pub one_header : (layout : Layout) (bytes : List ℕ) (g h : HeaderParts) → IsHeader layout bytes g → IsHeader layout bytes h → g ≡ h
one_header layout bytes g h is_g is_h = same_header layout bytes g h is_g is_h

-- one warrior at most stands in these sectors
pub one_slot : (layout : Layout) (s : RawSettings) (sectors : List (List ℕ)) (v w : WarriorParts) → AreSettings s → s.length ≤ code_room layout → IsSlot layout s sectors v → IsSlot layout s sectors w → v ≡ w
one_slot layout s sectors v w are room is_v is_w = same_warrior layout s sectors v w are room is_v is_w
