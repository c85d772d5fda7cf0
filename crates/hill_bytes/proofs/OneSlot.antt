-- Sectors hold one warrior at most.
use Rattle.std.proofs.Common.{◌≡◌, ℕ, zero, suc, ◌+◌, ◌-◌, ◌*◌, ◌≤◌, List, [], ◌∷◌, ◌++◌, length, get_or, take, drop, replicate, All, arith, refl, sym, ap, ap₂, ◌∙◌}
use Rattle.std.proofs.{lemmas.List.Elements.{All-drop, All-head, All-tail}, lemmas.List.{length-drop, take_all, take-append-drop}}
use Rattle.war_types.specs.{Bytes.{op_code, modifier_code, mode_code, instr_bytes}, declared.instr.Op.Op, declared.instr.Modifier.Modifier, declared.instr.Mode.Mode}
use Rattle.war_types.specs.{declared.instr.Instr.Instr, declared.settings.RawSettings.RawSettings, Settings.AreSettings, Title.IsPrintable, Warrior.{WarriorParts, HasNumbersBelow}}
use Rattle.hill_bytes.specs.{declared.wins.Wins.Wins, Layout.{Layout, code_places, code_room, code_sectors, fields_bytes, filled, last_sector, result_places, results_in, IsSlot}}
use Rattle.hill_bytes.proofs.{OneHeader.same-at, SlotBytes.{fields_rest, code-stands, drop-sectors, len-at, start-at, name-at, author-at}}

abbrev op_of : ℕ → Op
op_of n =
    get_or (Op.Dat ∷ Op.Mov ∷ Op.Add ∷ Op.Sub ∷ Op.Mul ∷ Op.Div ∷ Op.Mdl ∷ Op.Jmp ∷ Op.Jmz ∷ Op.Jmn ∷ Op.Djn ∷ Op.Seq ∷ Op.Sne ∷ Op.Slt ∷ Op.Spl ∷ Op.Nop ∷ []) n Op.Dat

op-back : (o : Op) → op_of (op_code o) ≡ o
op-back Op.Dat = refl
op-back Op.Mov = refl
op-back Op.Add = refl
op-back Op.Sub = refl
op-back Op.Mul = refl
op-back Op.Div = refl
op-back Op.Mdl = refl
op-back Op.Jmp = refl
op-back Op.Jmz = refl
op-back Op.Jmn = refl
op-back Op.Djn = refl
op-back Op.Seq = refl
op-back Op.Sne = refl
op-back Op.Slt = refl
op-back Op.Spl = refl
op-back Op.Nop = refl

abbrev modifier_of : ℕ → Modifier
modifier_of n = get_or (Modifier.A ∷ Modifier.B ∷ Modifier.AB ∷ Modifier.BA ∷ Modifier.F ∷ Modifier.X ∷ Modifier.I ∷ []) n Modifier.A

modifier-back : (m : Modifier) → modifier_of (modifier_code m) ≡ m
modifier-back Modifier.A = refl
modifier-back Modifier.B = refl
modifier-back Modifier.AB = refl
modifier-back Modifier.BA = refl
modifier-back Modifier.F = refl
modifier-back Modifier.X = refl
modifier-back Modifier.I = refl

abbrev mode_of : ℕ → Mode
mode_of n =
    get_or (Mode.Immediate ∷ Mode.Direct ∷ Mode.AIndirect ∷ Mode.BIndirect ∷ Mode.APre ∷ Mode.BPre ∷ Mode.APost ∷ Mode.BPost ∷ []) n Mode.Immediate

mode-back : (m : Mode) → mode_of (mode_code m) ≡ m
mode-back Mode.Immediate = refl
mode-back Mode.Direct = refl
mode-back Mode.AIndirect = refl
mode-back Mode.BIndirect = refl
mode-back Mode.APre = refl
mode-back Mode.BPre = refl
mode-back Mode.APost = refl
mode-back Mode.BPost = refl

mode-same : (m n : Mode) → mode_code m ≡ mode_code n → m ≡ n
mode-same m n e = sym (mode-back m) ∙ ap mode_of e ∙ mode-back n

instr-same : (core : ℕ) (i j : Instr) (r q : List ℕ) → core ≤ 65535 → HasNumbersBelow core i → HasNumbersBelow core j → instr_bytes i ++ r ≡ instr_bytes j ++ q → i ≡ j
instr-same core i j r q most below_i below_j same =
    let x : List ℕ = instr_bytes i ++ r in
    let y : List ℕ = instr_bytes j ++ q in
    let op : i.op ≡ j.op = sym (op-back i.op) ∙ ap (λ bytes. op_of (get_or bytes 0 0)) same ∙ op-back j.op in
    let modifier : i.modifier ≡ j.modifier = sym (modifier-back i.modifier) ∙ ap (λ bytes. modifier_of (get_or bytes 1 0)) same ∙ modifier-back j.modifier in
    let a_mode : i.a_mode ≡ j.a_mode = mode-same i.a_mode j.a_mode (ap (λ bytes. get_or bytes 2 0) same) in
    let b_mode : i.b_mode ≡ j.b_mode = mode-same i.b_mode j.b_mode (ap (λ bytes. get_or bytes 3 0) same) in
    let a : i.a ≡ j.a = same-at 2 i.a j.a (drop 4 x) (drop 6 x) (drop 6 y) (omega (arith, most, below_i.a)) (omega (arith, most, below_j.a)) refl (ap (drop 4) same) in
    let b : i.b ≡ j.b = same-at 2 i.b j.b (drop 6 x) r q (omega (arith, most, below_i.b)) (omega (arith, most, below_j.b)) refl (ap (drop 6) same) in
    λ k. record { op = op k; modifier = modifier k; a_mode = a_mode k; a = a k; b_mode = b_mode k; b = b k }

-- instructions that stand in the same places are the same
places-same : (n core : ℕ) (is js : List Instr) (r q : List ℕ) → core ≤ 65535 → length is ≡ length js → All (HasNumbersBelow core) is → All (HasNumbersBelow core) js → code_places n is ++ r ≡ code_places n js ++ q → take n is ≡ take n js
places-same n core [] [] r q most size below_i below_j same = refl
places-same n core [] (j ∷ js) r q most size below_i below_j same = absurd (omega (arith, size))
places-same n core (i ∷ is) [] r q most size below_i below_j same = absurd (omega (arith, size))
places-same zero core (i ∷ is) (j ∷ js) r q most size below_i below_j same = refl
places-same (suc n) core (i ∷ is) (j ∷ js) r q most size below_i below_j same =
    let head : i ≡ j = instr-same core i j (code_places n is ++ r) (code_places n js ++ q) most (All-head (HasNumbersBelow core) i is below_i) (All-head (HasNumbersBelow core) j js below_j) same in
    let tail : take n is ≡ take n js = places-same n core is js r q most (omega (arith, size)) (All-tail (HasNumbersBelow core) i is below_i) (All-tail (HasNumbersBelow core) j js below_j) (ap (drop 8) same) in
    ap (λ x. x ∷ take n is) head ∙ ap (λ xs. j ∷ xs) tail

-- all of them, if they stand in the same sectors
code-same : (n m core : ℕ) (is js : List Instr) (r q : List ℕ) → core ≤ 65535 → length is ≡ length js → length is ≤ 64 * n + m → All (HasNumbersBelow core) is → All (HasNumbersBelow core) js
    → code_sectors n is ++ (code_places m (drop (64 * n) is) ++ r) ∷ [] ≡ code_sectors n js ++ (code_places m (drop (64 * n) js) ++ q) ∷ [] → is ≡ js
code-same zero m core is js r q most size few below_i below_j same =
    let all : take m is ≡ take m js = places-same m core is js r q most size below_i below_j (ap (λ xs. get_or xs 0 []) same) in
    sym (take_all m is (omega (arith, few))) ∙ all ∙ take_all m js (omega (arith, few, size))
code-same (suc n) m core is js r q most size few below_i below_j same =
    let first : take 64 is ≡ take 64 js = places-same 64 core is js [] [] most size below_i below_j (ap (λ xs. get_or xs 0 [] ++ []) same) in
    let left_i : length (drop 64 is) ≡ length is - 64 = length-drop 64 is in
    let left_j : length (drop 64 js) ≡ length js - 64 = length-drop 64 js in
    let others : code_sectors n (drop 64 is) ++ (code_places m (drop (64 * n) (drop 64 is)) ++ r) ∷ [] ≡ code_sectors n (drop 64 js) ++ (code_places m (drop (64 * n) (drop 64 js)) ++ q) ∷ [] =
    ap (λ xs. code_sectors n (drop 64 is) ++ (code_places m xs ++ r) ∷ []) (sym (drop-sectors n is))
    ∙ ap (drop 1) same
    ∙ ap (λ xs. code_sectors n (drop 64 js) ++ (code_places m xs ++ q) ∷ []) (drop-sectors n js) in
    let rest : drop 64 is ≡ drop 64 js = code-same n m core (drop 64 is) (drop 64 js) r q most (omega (arith, left_i, left_j, size)) (omega (arith, left_i, few)) (All-drop (HasNumbersBelow core) 64 is below_i) (All-drop (HasNumbersBelow core) 64 js below_j) others in
    sym (take-append-drop 64 is) ∙ ap₂ (λ (xs ys : List Instr). xs ++ ys) first rest ∙ take-append-drop 64 js

not-zero : (b : ℕ) → IsPrintable b → b ≡ 0 → ⊥
not-zero b is e = let low = is.low in omega (arith, low, e)

-- titles are the same if the same bytes are filled with them
title-same : (n : ℕ) (x y r q : List ℕ) → length x ≤ n → length y ≤ n → All IsPrintable x → All IsPrintable y → filled n x ++ r ≡ filled n y ++ q → x ≡ y
title-same n [] [] r q few_x few_y is_x is_y same = refl
title-same zero [] (b ∷ y) r q few_x few_y is_x is_y same = absurd (omega (arith, few_y))
title-same zero (a ∷ x) y r q few_x few_y is_x is_y same = absurd (omega (arith, few_x))
title-same (suc n) [] (b ∷ y) r q few_x few_y is_x is_y same = absurd (not-zero b (All-head IsPrintable b y is_y) (sym (ap (λ bytes. get_or bytes 0 0) same)))
title-same (suc n) (a ∷ x) [] r q few_x few_y is_x is_y same = absurd (not-zero a (All-head IsPrintable a x is_x) (ap (λ bytes. get_or bytes 0 0) same))
title-same (suc n) (a ∷ x) (b ∷ y) r q few_x few_y is_x is_y same =
    let head : a ≡ b = ap (λ bytes. get_or bytes 0 0) same in
    let tail : x ≡ y = title-same n x y r q (omega (arith, few_x)) (omega (arith, few_y)) (All-tail IsPrintable a x is_x) (All-tail IsPrintable b y is_y) (ap (drop 1) same) in
    ap (λ c. c ∷ x) head ∙ ap (λ cs. b ∷ cs) tail

-- one warrior at most stands in these sectors
pub same_warrior : (layout : Layout) (s : RawSettings) (sectors : List (List ℕ)) (v w : WarriorParts) → AreSettings s → s.length ≤ code_room layout → IsSlot layout s sectors v → IsSlot layout s sectors w → v ≡ w
same_warrior layout s sectors v w are room is_v is_w =
    let most = are.length_most in
    let core : s.core ≤ 65535 = are.core_most in
    let few_v = is_v.fits.length in
    let few_w = is_w.fits.length in
    let first_v = is_v.fits.start in
    let first_w = is_w.fits.start in
    let results : List Wins = results_in layout sectors in
    let rest : List ℕ = result_places results ++ replicate 40 0 in
    let last : List ℕ = last_sector layout sectors in
    let at_v = is_v.sectors_are in
    let at_w = is_w.sectors_are in
    let size : length v.code ≡ length w.code = same-at 2 (length v.code) (length w.code) (drop 288 last) (drop 2 (fields_rest v results)) (drop 2 (fields_rest w results)) (omega (arith, most, few_v)) (omega (arith, most, few_w)) (len-at layout sectors v results at_v) (len-at layout sectors w results at_w) in
    let start : v.start ≡ w.start = same-at 2 v.start w.start (drop 290 last) (drop 4 (fields_rest v results)) (drop 4 (fields_rest w results)) (omega (arith, most, few_v, first_v)) (omega (arith, most, few_w, first_w)) (start-at layout sectors v results at_v) (start-at layout sectors w results at_w) in
    let name : v.name ≡ w.name = title-same 48 v.name w.name (filled 48 v.author ++ rest) (filled 48 w.author ++ rest) is_v.titled.name.short is_w.titled.name.short is_v.titled.name.printable is_w.titled.name.printable (sym (name-at layout sectors v results at_v) ∙ name-at layout sectors w results at_w) in
    let author : v.author ≡ w.author = title-same 48 v.author w.author rest rest is_v.titled.author.short is_w.titled.author.short is_v.titled.author.printable is_w.titled.author.printable (sym (author-at layout sectors v results at_v) ∙ author-at layout sectors w results at_w) in
    let zeros : List ℕ = replicate layout.zeros 0 in
    let code : v.code ≡ w.code = code-same layout.full layout.last s.core v.code w.code (zeros ++ fields_bytes v results) (zeros ++ fields_bytes w results) core size (omega (arith, few_v, room)) is_v.fits.numbers is_w.fits.numbers (sym (code-stands layout sectors v results at_v) ∙ code-stands layout sectors w results at_w) in
    λ k. record { code = code k; start = start k; name = name k; author = author k }
