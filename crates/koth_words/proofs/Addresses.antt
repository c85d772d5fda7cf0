-- The texts of addresses. For `address_given` and `has_address`.
use Rattle.std.proofs.Common.{◌≡◌, ◌∙◌, ◌↔◌, ℕ, Bool, true, false, not, List, [], ◌∷◌, Option, None, Some, Result, Ok, Err, Bor, option_map, codes, ap, refl, subst, sym, inl, inr, arith, lit≤, true≢false}
use Rattle.std.specs.{Prelude.{unwrap_or, IsOk, IsTrue}, Fmt.digits, Net.Grammar.{IsIpText, Parses}, Net.Reader.{read_ipv4, read_ipv6, read_number, read_octet, read_segment, read_segments}}
use Rattle.{std.specs.declared.net.ip_addr.IpAddr.IpAddr, std.proofs.{lemmas.Option.none-some, NetLemmas.Ipv4.read_ipv4_complete, NetLemmas.Ipv6.{EndsGroups-nil, read_ipv6_complete}}}
use Rattle.{std.proofs.{NetLemmas.Options.same_parts, NetLemmas.Theorems.IsIpText_unique}, clap.specs.Walk.Text, koth_words.specs.Words.{IsOfMany, WritesAddress}}

-- the address of four numbers
abbrev pub four : List ℕ → IpAddr
four octets = IpAddr.V4 (record { octets = octets })

pub this_machine : IsIpText (codes "127.0.0.1") (four (127 ∷ 0 ∷ 0 ∷ 1 ∷ []))
unfolding digits
this_machine = record { a = 127; b = 0; c = 0; d = 1; fit = (lit≤ tt, lit≤ tt, lit≤ tt, lit≤ tt); value = refl; spelled = refl }

module _ {E : Type 0} where
  -- a text that writes an address is read, and so is the default
  pub reads_address : (text : Option Text) (r : Result IpAddr E) → WritesAddress text → Parses IsIpText (unwrap_or text (codes "127.0.0.1")) r → IsOk r
  reads_address text (Ok address) writes parsed = refl
  reads_address None (Err e) writes parsed = absurd (parsed (four (127 ∷ 0 ∷ 0 ∷ 1 ∷ [])) this_machine)
  reads_address (Some text) (Err e) writes parsed = absurd (parsed writes.0 writes.1)

  -- a text that is read writes an address of one machine if what is read is one
  pub writes_one : (text : Text) (r : Result IpAddr E) (address : IpAddr) (many : Bool) → r ≡ Ok address → Parses IsIpText text r → (IsTrue many ↔ IsOfMany address)
      → IsTrue (not many) ↔ WritesAddress (Some text)
  writes_one text r address many is parsed tells = by many tells (subst (Parses IsIpText text) is parsed)
    where
      by : (many : Bool) → (IsTrue many ↔ IsOfMany address) → IsIpText text address → IsTrue (not many) ↔ WritesAddress (Some text)
      by true tells writes = (
        λ one. absurd (true≢false (sym one)),
        λ one. absurd (one.2 (subst IsOfMany (IsIpText_unique text address one.0 writes one.1) (tells.0 refl))),
      )
      by false tells writes = (λ one. (address, writes, λ of_many. true≢false (sym (tells.1 of_many))), λ one. refl)

  -- and one that isn't read writes none
  pub writes_none : (text : Text) (r : Result IpAddr E) (error : E) → r ≡ Err error → Parses IsIpText text r → IsTrue false ↔ WritesAddress (Some text)
  writes_none text r error is parsed =
      let unread : Parses IsIpText text (Err error) = subst (Parses IsIpText text) is parsed in
      (λ yes. absurd (true≢false (sym yes)), λ one. absurd (unread one.0 one.1))

-- the text that is given is what the matches have
pub given_is : (given : Option (Bor Text)) (text : Bor Text) (written : Option Text) → option_map (λ s. s.now) given ≡ written → given ≡ Some text → Some text.now ≡ written
given_is given text written named is = ap (option_map (λ (s : Bor Text). s.now)) (sym is) ∙ named

-- ---- texts that write an address, and texts that write none. For the rows of `Rows`.

pub every_address : IsIpText (codes "0.0.0.0") (four (0 ∷ 0 ∷ 0 ∷ 0 ∷ []))
unfolding digits
every_address = record { a = 0; b = 0; c = 0; d = 0; fit = (lit≤ tt, lit≤ tt, lit≤ tt, lit≤ tt); value = refl; spelled = refl }

abbrev pub any_address : IpAddr
any_address = IpAddr.V6 (record { segments = 0 ∷ 0 ∷ 0 ∷ 0 ∷ 0 ∷ 0 ∷ 0 ∷ 0 ∷ [] })

pub every_long_address : IsIpText (codes "::") any_address
every_long_address = inr (record { head_text = []; tail_text = []; head = []; tail = []; spelled = refl; head_groups = refl; tail_groups = refl; room = lit≤ tt; value = refl })

pub not_here : (address : IpAddr) → IsIpText (codes "here") address → ⊥
unfolding read_ipv4 read_octet read_number read_ipv6 read_segments read_segment
not_here (IpAddr.V4 a) writes = none-some _ (read_ipv4_complete (codes "here") _ [] writes (lit≤ tt))
not_here (IpAddr.V6 a) writes = none-some _ (read_ipv6_complete (codes "here") _ [] writes EndsGroups-nil)

-- a reader that leaves something has not read the whole text
some_left : (x y : List ℕ) (c : ℕ) (cs : List ℕ) → ◌≡◌ {A = Option (List ℕ × List ℕ)} (Some (x, c ∷ cs)) (Some (y, [])) → ⊥
some_left x y c cs e =
    let rest = (same_parts _ _ _ _ e).1 in
    absurd (cc)

pub not_with_port : (address : IpAddr) → IsIpText (codes "0.0.0.0:80") address → ⊥
unfolding read_ipv4 read_octet read_number read_ipv6 read_segments read_segment
not_with_port (IpAddr.V4 a) writes = some_left _ _ _ _ (read_ipv4_complete (codes "0.0.0.0:80") _ [] writes (lit≤ tt))
not_with_port (IpAddr.V6 a) writes = none-some _ (read_ipv6_complete (codes "0.0.0.0:80") _ [] writes EndsGroups-nil)

-- ---- addresses of one machine, and of many

pub every_address_is_one : ¬ IsOfMany (four (0 ∷ 0 ∷ 0 ∷ 0 ∷ []))
every_address_is_one (inl within) = absurd (omega (arith, within.0))
every_address_is_one (inr same) = absurd (cc)

pub every_long_address_is_one : ¬ IsOfMany any_address
every_long_address_is_one (inl within) = absurd (omega (arith, within.0))
every_long_address_is_one (inr mapped) = absurd (cc)

all_of_a_network : IsIpText (codes "255.255.255.255") (four (255 ∷ 255 ∷ 255 ∷ 255 ∷ []))
unfolding digits
all_of_a_network = record { a = 255; b = 255; c = 255; d = 255; fit = (lit≤ tt, lit≤ tt, lit≤ tt, lit≤ tt); value = refl; spelled = refl }

a_group : IsIpText (codes "224.0.0.1") (four (224 ∷ 0 ∷ 0 ∷ 1 ∷ []))
unfolding digits
a_group = record { a = 224; b = 0; c = 0; d = 1; fit = (lit≤ tt, lit≤ tt, lit≤ tt, lit≤ tt); value = refl; spelled = refl }

pub not_to_all : ¬ WritesAddress (Some (codes "255.255.255.255"))
not_to_all one =
    let many : IsOfMany (four (255 ∷ 255 ∷ 255 ∷ 255 ∷ [])) = inr refl in
    one.2 (subst IsOfMany (IsIpText_unique (codes "255.255.255.255") (four (255 ∷ 255 ∷ 255 ∷ 255 ∷ [])) one.0 all_of_a_network one.1) many)

pub not_to_a_group : ¬ WritesAddress (Some (codes "224.0.0.1"))
not_to_a_group one =
    let many : IsOfMany (four (224 ∷ 0 ∷ 0 ∷ 1 ∷ [])) = inl (lit≤ tt, lit≤ tt) in
    one.2 (subst IsOfMany (IsIpText_unique (codes "224.0.0.1") (four (224 ∷ 0 ∷ 0 ∷ 1 ∷ [])) one.0 a_group one.1) many)

-- the same group as an IPv6 address
mapped_group : IpAddr
mapped_group = IpAddr.V6 (record { segments = 0 ∷ 0 ∷ 0 ∷ 0 ∷ 0 ∷ 65535 ∷ 57344 ∷ 1 ∷ [] })

a_mapped_group : IsIpText (codes "::ffff:224.0.0.1") mapped_group
unfolding digits mapped_group
a_mapped_group = inr (record {
  head_text = [];
  tail_text = codes "ffff:224.0.0.1";
  head = [];
  tail = 65535 ∷ 57344 ∷ 1 ∷ [];
  spelled = refl;
  head_groups = refl;
  tail_groups = inl (
    codes "ffff",
    codes ":224.0.0.1",
    refl,
    (((lit≤ tt, (lit≤ tt, (lit≤ tt, (lit≤ tt, (lit≤ tt, tt))))), refl), lit≤ tt),
    inr (codes "224.0.0.1", 224 ∷ 0 ∷ 0 ∷ 1 ∷ [], refl, refl, record { a = 224; b = 0; c = 0; d = 1; fit = (lit≤ tt, lit≤ tt, lit≤ tt, lit≤ tt); value = refl; spelled = refl }, refl),
  );
  room = lit≤ tt;
  value = refl;
})

pub not_to_a_mapped_group : ¬ WritesAddress (Some (codes "::ffff:224.0.0.1"))
unfolding mapped_group
not_to_a_mapped_group one =
    let many : IsOfMany mapped_group = inr (refl, inl (lit≤ tt, lit≤ tt)) in
    one.2 (subst IsOfMany (IsIpText_unique (codes "::ffff:224.0.0.1") mapped_group one.0 a_mapped_group one.1) many)
