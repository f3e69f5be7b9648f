-- Each line of a certificate says what it was written from.
use Rattle.std.proofs.Common.{◌≡◌, ℕ, ◌^◌, ◌<◌, ◌≤◌, Bool, true, false, cond, eqb, List, [], ◌∷◌, map, length, replicate, Option, Some, None, refl, sym, ap, subst, ◌∙◌, arith}
use Rattle.std.specs.Prelude.{nat_le, nat_lt, ◌&&◌}
use Rattle.std.proofs.lemmas.Bool.{eqb-true, eq-eqb, le-leb, leb-true, lt-ltb, ltb-true, ltb-false}
use Rattle.edge_table.specs.declared.edge.Edge.{Edge}
use Rattle.line_text.specs.Words.{named, AreNumbers, ◌>>=◌, each_of, numbers_after}
use Rattle.line_text.specs.Lines.{IsLine}
use Rattle.line_text.proofs.NumberLaws.{some_is, not_some, then_some, chosen, below_again, below_takes}
use Rattle.line_text.proofs.WordLaws.{all_weaker, each_again, each_takes, numbers_again, numbers_take, named_is_line}
use Rattle.line_text.proofs.Combining.{IsLineOf}
use Rattle.line_text.proofs.Counting.{AreMany, are_many}
use Rattle.cert_text.specs.Certs.{IsSmall, IsLarge, IsWide, IsEdge, IsRound}
use Rattle.cert_text.specs.Texts.{ends, input_numbers}
use Rattle.cert_text.specs.declared.heads.Counts.{Counts}
use Rattle.cert_text.specs.declared.heads.RowHead.{RowHead}
use Rattle.cert_text.specs.Heads.{none_of, one_of, two_of, three_of, small_of, large_of, edge_of, edges_of, version_of, counts, counts_of, perm_of, nothing, row_head_of}

-- ---- so many numbers
pub one_takes : (ns : List ℕ) (a : ℕ) → one_of ns ≡ Some a → ns ≡ a ∷ []
one_takes [] a e = not_some a e
one_takes (x ∷ []) a e = ap (λ (k : ℕ). k ∷ []) (some_is x a e)
one_takes (x ∷ y ∷ ns) a e = not_some a e

pub two_takes : (ns : List ℕ) (a : ℕ × ℕ) → two_of ns ≡ Some a → ns ≡ a.0 ∷ a.1 ∷ []
two_takes [] a e = not_some a e
two_takes (x ∷ []) a e = not_some a e
two_takes (x ∷ y ∷ []) a e = ap (λ (k : ℕ × ℕ). k.0 ∷ k.1 ∷ []) (some_is (x, y) a e)
two_takes (x ∷ y ∷ z ∷ ns) a e = not_some a e

pub three_takes : (ns : List ℕ) (a : ℕ × ℕ × ℕ) → three_of ns ≡ Some a → ns ≡ a.0 ∷ a.1 ∷ a.2 ∷ []
three_takes [] a e = not_some a e
three_takes (x ∷ []) a e = not_some a e
three_takes (x ∷ y ∷ []) a e = not_some a e
three_takes (x ∷ y ∷ z ∷ []) a e = ap (λ (k : ℕ × ℕ × ℕ). k.0 ∷ k.1 ∷ k.2 ∷ []) (some_is (x, y, z) a e)
three_takes (x ∷ y ∷ z ∷ w ∷ ns) a e = not_some a e

pub small_again : (n : ℕ) → IsSmall n → small_of n ≡ Some n
small_again n lt = below_again (2 ^ 32) n lt

pub small_takes : (n m : ℕ) → small_of n ≡ Some m → (n ≡ m) × IsSmall m
small_takes n m e = let b = below_takes (2 ^ 32) n m e in (sym b.0, rw b.0 b.1)

pub large_again : (n : ℕ) → IsLarge n → large_of n ≡ Some n
large_again n lt = below_again (2 ^ 64) n lt

pub large_takes : (n m : ℕ) → large_of n ≡ Some m → (n ≡ m) × IsLarge m
large_takes n m e = let b = below_takes (2 ^ 64) n m e in (sym b.0, rw b.0 b.1)

-- small and large numbers are wide
pub small_wide : (n : ℕ) → IsSmall n → n < 2 ^ 128
small_wide n lt = omega arith

pub large_wide : (n : ℕ) → IsLarge n → n < 2 ^ 128
large_wide n lt = omega arith

-- ---- edges
pub edge_again : (e : Edge) → IsEdge e → edge_of e.0 e.1 ≡ Some e
edge_again e is = rw (small_again e.0 (omega (arith, is.0, is.1)), small_again e.1 is.1, lt-ltb e.0 e.1 is.0) refl

pub edge_takes : (u v : ℕ) (e : Edge) → edge_of u v ≡ Some e → (u ≡ e.0) × (v ≡ e.1) × IsEdge e
edge_takes u v e f =
    let a = then_some (small_of u) (λ a. small_of v >>= λ b. cond (nat_lt a b) (Some (a, b)) None) e f in
    let b = then_some (small_of v) (λ b. cond (nat_lt a.0 b) (Some (a.0, b)) None) e a.2 in
    let c = chosen (nat_lt a.0 b.0) (a.0, b.0) e b.2 in
    let s = small_takes u a.0 a.1 in
    let t = small_takes v b.0 b.1 in
    let lt = ltb-true a.0 b.0 c.0 in
    subst (λ (x : Edge). (u ≡ x.0) × (v ≡ x.1) × IsEdge x) c.1 (s.0, t.0, (lt, t.1))

pub edges_again : (es : List Edge) → IsRound es → edges_of (ends es) ≡ Some es
unfolding edges_of
edges_again [] is = refl
edges_again (e ∷ es) is = rw (edge_again e is.0, edges_again es is.1) refl

-- two numbers, then others
ends_are : (u v : ℕ) (e : Edge) (ns : List ℕ) (es : List Edge) → u ≡ e.0 → v ≡ e.1 → ns ≡ ends es → u ∷ v ∷ ns ≡ ends (e ∷ es)
ends_are u v e ns es f g h = rw (f, g, h) refl

pub edges_take : (ns : List ℕ) (es : List Edge) → edges_of ns ≡ Some es → (ns ≡ ends es) × IsRound es
unfolding edges_of
edges_take [] es e = subst (λ (x : List Edge). ([] ≡ ends x) × IsRound x) (some_is [] es e) (refl, tt)
edges_take (u ∷ []) es e = not_some es e
edges_take (u ∷ v ∷ ns) es e =
    let a = then_some (edge_of u v) (λ x. edges_of ns >>= λ xs. Some (x ∷ xs)) es e in
    let b = then_some (edges_of ns) (λ xs. Some (a.0 ∷ xs)) es a.2 in
    let h = edge_takes u v a.0 a.1 in
    let t = edges_take ns b.0 b.1 in
    subst (λ (x : List Edge). (u ∷ v ∷ ns ≡ ends x) × IsRound x) (some_is (a.0 ∷ b.0) es b.2) (ends_are u v a.0 ns b.0 h.0 h.1 t.0, (h.2, t.1))

pub ends_fit : (es : List Edge) → IsRound es → AreNumbers (ends es)
ends_fit [] is = tt
ends_fit (e ∷ es) is = let lt = is.0 in (omega (arith, lt.0, lt.1), (omega (arith, lt.1), ends_fit es is.1))

-- ---- lines with one name
-- what numbers say, and the numbers that say it
pub record IsSaid {A : Type 0} (Fits : A → Type 0) (numbers : A → List ℕ) (said : List ℕ → Option A) : Type 0 where
  pub wide : (a : A) → Fits a → AreNumbers (numbers a)
  pub again : (a : A) → Fits a → said (numbers a) ≡ Some a
  pub takes : (ns : List ℕ) (a : A) → AreNumbers ns → said ns ≡ Some a → (ns ≡ numbers a) × Fits a
  pub some : (a : A) × Fits a

pub named_line : {A : Type 0} (Fits : A → Type 0) (numbers : A → List ℕ) (said : List ℕ → Option A) (name : List ℕ) → IsLine name → IsSaid Fits numbers said → IsLineOf Fits (λ a. named name (numbers a)) (λ line. numbers_after name line >>= said)
named_line Fits numbers said name clean is = record {
  again = λ a fits. rw (numbers_again name (numbers a) (is.wide a fits)) (is.again a fits);
  takes = λ line a e.
      let x = then_some (numbers_after name line) said a e in
      let n = numbers_take name line x.0 x.1 in
      let s = is.takes x.0 a n.1 x.2 in
      (n.0 ∙ ap (named name) s.0, s.1);
  clean = λ a fits. named_is_line name (numbers a) clean (is.wide a fits);
  some = is.some;
}

pub round_said : IsSaid IsRound ends edges_of
unfolding edges_of
round_said = record { wide = λ es fits. ends_fit es fits; again = λ es fits. edges_again es fits; takes = λ ns es fits e. edges_take ns es e; some = ([], tt) }

pub wide_said : IsSaid IsWide (λ n. n ∷ []) one_of
wide_said = record { wide = λ n fits. (fits, tt); again = λ n fits. refl; takes = takes; some = (0, omega arith) }
  where
    takes : (ns : List ℕ) (a : ℕ) → AreNumbers ns → one_of ns ≡ Some a → (ns ≡ a ∷ []) × IsWide a
    takes ns a fits e = let is = one_takes ns a e in (is, (subst AreNumbers is fits).0)

pub large_said : IsSaid IsLarge (λ n. n ∷ []) (λ ns. one_of ns >>= large_of)
large_said = record { wide = λ n fits. (large_wide n fits, tt); again = λ n fits. large_again n fits; takes = takes; some = (0, omega arith) }
  where
    takes : (ns : List ℕ) (a : ℕ) → AreNumbers ns → (one_of ns >>= large_of) ≡ Some a → (ns ≡ a ∷ []) × IsLarge a
    takes ns a fits e =
        let x = then_some (one_of ns) large_of a e in
        let l = large_takes x.0 a x.2 in
        (one_takes ns x.0 x.1 ∙ ap (λ (n : ℕ). n ∷ []) l.0, l.1)

pub both_true : (a b : Bool) → (a && b) ≡ true → (a ≡ true) × (b ≡ true)
both_true true true e = (refl, refl)
both_true true false e = absurd cc
both_true false b e = absurd cc

abbrev IsVersion : ℕ → Type 0
IsVersion n = (1 ≤ n) × (n ≤ 3)

pub version_said : IsSaid IsVersion (λ n. n ∷ []) version_of
version_said = record { wide = λ n fits. (omega (arith, fits.1), tt); again = λ n fits. rw (le-leb 1 n fits.0, le-leb n 3 fits.1) refl; takes = takes; some = (1, (omega arith, omega arith)) }
  where
    takes : (ns : List ℕ) (a : ℕ) → AreNumbers ns → version_of ns ≡ Some a → (ns ≡ a ∷ []) × IsVersion a
    takes ns a fits e =
        let x = then_some (one_of ns) (λ n. cond (nat_le 1 n && nat_le n 3) (Some n) None) a e in
        let c = chosen (nat_le 1 x.0 && nat_le x.0 3) x.0 a x.2 in
        let t = both_true (nat_le 1 x.0) (nat_le x.0 3) c.0 in
        subst (λ (n : ℕ). (ns ≡ n ∷ []) × IsVersion n) c.1 (one_takes ns x.0 x.1, (leb-true 1 x.0 t.0, leb-true x.0 3 t.1))

-- inputs and copies: below version 3 each input is counted once
pub record AreCounts (version : ℕ) (c : Counts) : Type 0 where
  pub inputs : IsSmall c.inputs
  pub copies : IsSmall c.copies
  pub each_once : version < 3 → c.copies ≡ c.inputs

pub counts_said : (version : ℕ) → IsSaid (AreCounts version) (λ c. input_numbers version c.inputs c.copies) (counts_of version)
counts_said version = record { wide = wide; again = again; takes = takes; some = (counts 0 0, record { inputs = omega arith; copies = omega arith; each_once = λ lt. refl }) }
  where
    wide_by : (t : Bool) (c : Counts) → AreCounts version c → AreNumbers (cond t (c.inputs ∷ []) (c.inputs ∷ c.copies ∷ []))
    wide_by true c fits = (small_wide c.inputs fits.inputs, tt)
    wide_by false c fits = (small_wide c.inputs fits.inputs, (small_wide c.copies fits.copies, tt))

    wide : (c : Counts) → AreCounts version c → AreNumbers (input_numbers version c.inputs c.copies)
    wide c fits = wide_by (nat_lt version 3) c fits

    said : Bool → List ℕ → Option Counts
    said t ns = cond t (one_of ns >>= small_of >>= λ n. Some (counts n n)) (two_of ns >>= λ x. small_of x.0 >>= λ inputs. small_of x.1 >>= λ copies. Some (counts inputs copies))

    again_by : (t : Bool) → nat_lt version 3 ≡ t → (c : Counts) → AreCounts version c → cond t (one_of (cond t (c.inputs ∷ []) (c.inputs ∷ c.copies ∷ [])) >>= small_of >>= λ n. Some (counts n n)) (two_of (cond t (c.inputs ∷ []) (c.inputs ∷ c.copies ∷ [])) >>= λ x. small_of x.0 >>= λ inputs. small_of x.1 >>= λ copies. Some (counts inputs copies)) ≡ Some c
    again_by true e c fits = rw (small_again c.inputs fits.inputs) (ap (λ (n : ℕ). Some (counts c.inputs n)) (sym (fits.each_once (ltb-true version 3 e))))
    again_by false e c fits = rw (small_again c.inputs fits.inputs, small_again c.copies fits.copies) refl

    again : (c : Counts) → AreCounts version c → counts_of version (input_numbers version c.inputs c.copies) ≡ Some c
    again c fits = again_by (nat_lt version 3) refl c fits

    takes_by : (t : Bool) → nat_lt version 3 ≡ t → (ns : List ℕ) (c : Counts) → cond t (one_of ns >>= small_of >>= λ n. Some (counts n n)) (two_of ns >>= λ x. small_of x.0 >>= λ inputs. small_of x.1 >>= λ copies. Some (counts inputs copies)) ≡ Some c → (ns ≡ cond t (c.inputs ∷ []) (c.inputs ∷ c.copies ∷ [])) × AreCounts version c
    takes_by true e ns c f =
        let x = then_some (one_of ns >>= small_of) (λ n. Some (counts n n)) c f in
        let y = then_some (one_of ns) small_of x.0 x.1 in
        let s = small_takes y.0 x.0 y.2 in
        subst (λ (k : Counts). (ns ≡ k.inputs ∷ []) × AreCounts version k) (some_is (counts x.0 x.0) c x.2) (one_takes ns y.0 y.1 ∙ ap (λ (n : ℕ). n ∷ []) s.0, record { inputs = s.1; copies = s.1; each_once = λ lt. refl })
    takes_by false e ns c f =
        let x = then_some (two_of ns) (λ x. small_of x.0 >>= λ inputs. small_of x.1 >>= λ copies. Some (counts inputs copies)) c f in
        let y = then_some (small_of x.0.0) (λ inputs. small_of x.0.1 >>= λ copies. Some (counts inputs copies)) c x.2 in
        let z = then_some (small_of x.0.1) (λ copies. Some (counts y.0 copies)) c y.2 in
        let s = small_takes x.0.0 y.0 y.1 in
        let t = small_takes x.0.1 z.0 z.1 in
        subst (λ (k : Counts). (ns ≡ k.inputs ∷ k.copies ∷ []) × AreCounts version k) (some_is (counts y.0 z.0) c z.2) (two_takes ns x.0 x.1 ∙ pairs x.0.0 x.0.1 y.0 z.0 s.0 t.0, record { inputs = s.1; copies = t.1; each_once = λ lt. absurd (let no = ltb-false version 3 e in omega (arith, lt, no)) })
      where
        pairs : (a b c d : ℕ) → a ≡ c → b ≡ d → a ∷ b ∷ [] ≡ c ∷ d ∷ []
        pairs a b c d f g = rw (f, g) refl

    takes : (ns : List ℕ) (c : Counts) → AreNumbers ns → counts_of version ns ≡ Some c → (ns ≡ input_numbers version c.inputs c.copies) × AreCounts version c
    takes ns c fits e = takes_by (nat_lt version 3) refl ns c e

-- so many small numbers
abbrev pub IsPerm : ℕ → List ℕ → Type 0
IsPerm copies perm = AreMany IsSmall copies perm

map_same : (ns : List ℕ) → map (λ (n : ℕ). n) ns ≡ ns
map_same [] = refl
map_same (n ∷ ns) = ap (λ (t : List ℕ). n ∷ t) (map_same ns)

pub perm_said : (copies : ℕ) → IsSaid (IsPerm copies) (λ perm. perm) (perm_of copies)
perm_said copies = record { wide = λ perm fits. all_weaker IsSmall (λ n. n < 2 ^ 128) small_wide perm fits.1; again = again; takes = takes; some = (replicate copies 0, are_many IsSmall 0 (omega arith) copies) }
  where
    again : (perm : List ℕ) → IsPerm copies perm → perm_of copies perm ≡ Some perm
    again perm fits = rw (eq-eqb (length perm) copies fits.0) (ap (each_of small_of) (sym (map_same perm)) ∙ each_again small_of (λ n. n) IsSmall (λ n is. small_again n is) perm fits.1)

    by_length : (t : Bool) (ns perm : List ℕ) → eqb (length ns) copies ≡ t → cond t (each_of small_of ns) None ≡ Some perm → (ns ≡ perm) × IsPerm copies perm
    by_length true ns perm t f =
        let h = each_takes small_of (λ n. n) IsSmall (λ n m e. small_takes n m e) ns perm f in
        let is : ns ≡ perm = h.0 ∙ map_same perm in
        (is, (ap (λ (x : List ℕ). length x) (sym is) ∙ eqb-true (length ns) copies t, h.1))
    by_length false ns perm t f = not_some perm f

    takes : (ns perm : List ℕ) → AreNumbers ns → perm_of copies ns ≡ Some perm → (ns ≡ perm) × IsPerm copies perm
    takes ns perm fits e = by_length (eqb (length ns) copies) ns perm refl e

pub none_takes : (ns : List ℕ) → none_of ns ≡ true → ns ≡ []
none_takes [] e = refl
none_takes (n ∷ ns) e = absurd cc

pub end_said : IsSaid (λ (u : Unit {0}). Unit {0}) (λ u. []) (λ numbers. cond (none_of numbers) (Some nothing) None)
end_said = record { wide = λ u fits. tt; again = λ u fits. refl; takes = λ ns u fits e. (none_takes ns (chosen (none_of ns) nothing u e).0, tt); some = (tt, tt) }

-- the first line of a row
pub record IsRowHead (h : RowHead) : Type 0 where
  pub i : IsSmall h.i
  pub j : IsSmall h.j
  pub lower : IsSmall h.lower

pub triple : (a b c d e f : ℕ) → a ≡ d → b ≡ e → c ≡ f → a ∷ b ∷ c ∷ [] ≡ d ∷ e ∷ f ∷ []
triple a b c d e f g h k = rw (g, h, k) refl

abbrev row_head : ℕ → ℕ → ℕ → RowHead
row_head i j lower = record { i = i; j = j; lower = lower }

pub row_said : IsSaid IsRowHead (λ h. h.i ∷ h.j ∷ h.lower ∷ []) row_head_of
row_said = record {
  wide = λ h fits. (small_wide h.i fits.i, (small_wide h.j fits.j, (small_wide h.lower fits.lower, tt)));
  again = λ h fits. rw (small_again h.i fits.i, small_again h.j fits.j, small_again h.lower fits.lower) refl;
  takes = takes;
  some = (row_head 0 0 0, record { i = omega arith; j = omega arith; lower = omega arith });
}
  where
    takes : (ns : List ℕ) (h : RowHead) → AreNumbers ns → row_head_of ns ≡ Some h → (ns ≡ h.i ∷ h.j ∷ h.lower ∷ []) × IsRowHead h
    takes ns h fits e =
        let x = then_some (three_of ns) (λ x. small_of x.0 >>= λ i. small_of x.1 >>= λ j. small_of x.2 >>= λ lower. Some (row_head i j lower)) h e in
        let a = then_some (small_of x.0.0) (λ i. small_of x.0.1 >>= λ j. small_of x.0.2 >>= λ lower. Some (row_head i j lower)) h x.2 in
        let b = then_some (small_of x.0.1) (λ j. small_of x.0.2 >>= λ lower. Some (row_head a.0 j lower)) h a.2 in
        let c = then_some (small_of x.0.2) (λ lower. Some (row_head a.0 b.0 lower)) h b.2 in
        let p = small_takes x.0.0 a.0 a.1 in
        let q = small_takes x.0.1 b.0 b.1 in
        let r = small_takes x.0.2 c.0 c.1 in
        subst (λ (k : RowHead). (ns ≡ k.i ∷ k.j ∷ k.lower ∷ []) × IsRowHead k) (some_is (row_head a.0 b.0 c.0) h c.2) (three_takes ns x.0 x.1 ∙ triple x.0.0 x.0.1 x.0.2 a.0 b.0 c.0 p.0 q.0 r.0, record { i = p.1; j = q.1; lower = r.1 })
