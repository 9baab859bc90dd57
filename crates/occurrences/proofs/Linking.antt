-- A place put at the front of the chain of its variable. Assumes nothing.
use Prim.Native.Nat.{ℕ, ◌+◌, ◌*◌, ◌-◌, ◌≤◌, ◌<◌}
use native.Mathlib.Omega.{arith}
use mathlib.Core.Path.{◌≡◌, refl, sym, ap, subst, subst₂, ◌∙◌}
use mathlib.Core.List.{List}
use mathlib.Core.Logic.{inl, inr, ⊎_elim}
use lib.ListN.{length, get_or, set, replicate, length-set, length-replicate}
use lib.Seq.{get_or-set_same, get_or-set_other}
use lib.IntN.{ℤ, pos}
use Rattle.literal.specs.Literals.{Literal, Small}
use Rattle.base.specs.Decide.{same_or}
use Rattle.base.proofs.Lists.{get_d_zeros}
use Rattle.tables.specs.Tables.{start_of, length_of, variable_at}
use Rattle.occurrences.specs.Chains.{next_of, owner_of, Chained, Before, Linking, Linkable, ChainRoom}

-- ---- the chains

module _ {vs heads places : List ℕ} (C : Chained vs heads places) (p u i : ℕ) (some : 0 < u) (fresh : (q : ℕ) → 0 < get_or vs q 0 → q < p)
    (in_vs : p < length vs) (in_heads : u < length heads) (in_places : 2 * p + 1 < length places) where
  abbrev vs' : List ℕ
  vs' = set vs p u

  abbrev heads' : List ℕ
  heads' = set heads u (p + 1)

  abbrev places' : List ℕ
  places' = set (set places (2 * p) (get_or heads u 0)) (2 * p + 1) i

  here : get_or vs' p 0 ≡ u
  here = get_or-set_same vs p u 0 in_vs

  there : (q : ℕ) → (q ≡ p → ⊥) → get_or vs' q 0 ≡ get_or vs q 0
  there q d = get_or-set_other vs p q u 0 d

  head_here : get_or heads' u 0 ≡ p + 1
  head_here = get_or-set_same heads u (p + 1) 0 in_heads

  head_there : (w : ℕ) → (w ≡ u → ⊥) → get_or heads' w 0 ≡ get_or heads w 0
  head_there w d = get_or-set_other heads u w (p + 1) 0 d

  next_here : next_of places' p ≡ get_or heads u 0
  next_here = get_or-set_other (set places (2 * p) (get_or heads u 0)) (2 * p + 1) (2 * p) i 0 (λ e. omega arith) ∙ get_or-set_same places (2 * p) (get_or heads u 0) 0 (omega arith)

  next_there : (q : ℕ) → (q ≡ p → ⊥) → next_of places' q ≡ next_of places q
  next_there q d = get_or-set_other (set places (2 * p) (get_or heads u 0)) (2 * p + 1) (2 * q) i 0 (λ e. omega arith) ∙ get_or-set_other places (2 * p) (2 * q) (get_or heads u 0) 0 (λ e. d (omega arith))

  pub owner_here : owner_of places' p ≡ i
  owner_here = get_or-set_same (set places (2 * p) (get_or heads u 0)) (2 * p + 1) i 0 (simp length-set in_places)

  pub owner_there : (q : ℕ) → (q ≡ p → ⊥) → owner_of places' q ≡ owner_of places q
  owner_there q d = get_or-set_other (set places (2 * p) (get_or heads u 0)) (2 * p + 1) (2 * q + 1) i 0 (λ e. d (omega arith)) ∙ get_or-set_other places (2 * p) (2 * q + 1) (get_or heads u 0) 0 (λ e. omega arith)

  last' : (w q : ℕ) → 0 < w → get_or vs' q 0 ≡ w → q < get_or heads' w 0
  last' w q h e =
      ⊎_elim
      (λ (s : q ≡ p). let z : w ≡ u = sym e ∙ ap (λ (x : ℕ). get_or vs' x 0) s ∙ here in omega (arith, s, ap (λ (x : ℕ). get_or heads' x 0) z, head_here))
      (λ (d : q ≡ p → ⊥).
      let f : get_or vs q 0 ≡ w = sym (there q d) ∙ e in
      ⊎_elim
      (λ (s : w ≡ u). omega (arith, fresh q (omega (arith, f, h)), ap (λ (x : ℕ). get_or heads' x 0) s, head_here))
      (λ (x : w ≡ u → ⊥). omega (arith, head_there w x, C.last w q h f))
      (same_or w u))
      (same_or q p)

  head' : (w q : ℕ) → 0 < w → get_or heads' w 0 ≡ q + 1 → get_or vs' q 0 ≡ w
  head' w q h e =
      ⊎_elim
      (λ (s : w ≡ u). let z : q ≡ p = omega (arith, e, ap (λ (x : ℕ). get_or heads' x 0) s, head_here) in ap (λ (x : ℕ). get_or vs' x 0) z ∙ here ∙ sym s)
      (λ (d : w ≡ u → ⊥). let f : get_or vs q 0 ≡ w = C.head w q h (sym (head_there w d) ∙ e) in there q (λ s. omega (arith, s, fresh q (omega (arith, f, h)))) ∙ f)
      (same_or w u)

  before' : (a b : ℕ) → 0 < get_or vs' a 0 → get_or vs' b 0 ≡ get_or vs' a 0 → b < a → b < next_of places' a
  before' a b h e lt =
      ⊎_elim
      (λ (s : a ≡ p).
      let f : get_or vs b 0 ≡ u = sym (there b (λ z. omega (arith, z, s, lt))) ∙ e ∙ ap (λ (x : ℕ). get_or vs' x 0) s ∙ here in
      omega (arith, C.last u b some f, next_here, ap (next_of places') s))
      (λ (d : a ≡ p → ⊥).
      let q : 0 < get_or vs a 0 = omega (arith, there a d, h) in
      let l : a < p = fresh a q in
      omega (arith, next_there a d, C.before a b q (sym (there b (λ z. omega (arith, z, l, lt))) ∙ e ∙ there a d) lt))
      (same_or a p)

  next' : (a b : ℕ) → 0 < get_or vs' a 0 → next_of places' a ≡ b + 1 → (get_or vs' b 0 ≡ get_or vs' a 0) × (b < a)
  next' a b h e =
      ⊎_elim
      (λ (s : a ≡ p).
      let f : get_or vs b 0 ≡ u = C.head u b some (sym next_here ∙ sym (ap (next_of places') s) ∙ e) in
      let l : b < p = fresh b (omega (arith, f, some)) in
      (there b (λ z. omega (arith, z, l)) ∙ f ∙ sym here ∙ ap (λ (x : ℕ). get_or vs' x 0) (sym s), omega (arith, l, s)))
      (λ (d : a ≡ p → ⊥).
      let q : 0 < get_or vs a 0 = omega (arith, there a d, h) in
      let N = C.next a b q (sym (next_there a d) ∙ e) in
      (there b (λ z. omega (arith, z, N.1, fresh a q)) ∙ N.0 ∙ sym (there a d), N.1))
      (same_or a p)

  pub chained' : Chained vs' heads' places'
  chained' = record { last = last'; head = head'; before = before'; next = next' }

-- ---- the literals of the clauses

module _ {n i m : ℕ} {c : List ℕ} {l : List ℤ} {heads places : List ℕ} (K : Linkable n c l) (lt : i < n) (inside : m < length_of c i) (R : ChainRoom heads places) (L : Linking i m c l heads places) where
  abbrev place : ℕ
  place = start_of c i + m

  abbrev var : ℕ
  var = variable_at l place

  pub in_literals : place < 16384
  in_literals = omega (arith, K.parts.inside i lt, inside)

  -- the literals that come before stand before
  earlier : (j k : ℕ) → k < length_of c j → Before j k i m → start_of c j + k < place
  earlier j k h (inl b) = omega (arith, K.parts.apart i lt j b (omega (arith, h)) (omega (arith, inside)), h)
  earlier j k h (inr b) = omega (arith, ap (start_of c) b.0, b.1)

  fresh : (q : ℕ) → 0 < get_or L.vs q 0 → q < place
  fresh q h = let (j, k, e, within, b) = L.from q h in omega (arith, e, earlier j k within b)

  more : (j k : ℕ) → Before j k i m → Before j k i (m + 1)
  more j k (inl b) = inl b
  more j k (inr b) = inr (b.0, omega (arith, b.1))

  in_vs : place < length L.vs
  in_vs = omega (arith, L.size, in_literals)

  in_heads : var < length heads
  in_heads = omega (arith, (K.ranged i lt m inside).within, R.variables)

  in_places : 2 * place + 1 < length places
  in_places = omega (arith, R.records, in_literals)

  above : 0 < var
  above = (K.ranged i lt m inside).above

  pub linking_more : Linking i (m + 1) c l (set heads var (place + 1)) (set (set places (2 * place) (get_or heads var 0)) (2 * place + 1) i)
  linking_more = record {
    vs = set L.vs place var;
    size = simp length-set L.size;
    chained = chained' L.chained place var i above fresh in_vs in_heads in_places;
    from = λ q h.
        ⊎_elim
        (λ (s : q ≡ place). (i, m, s, inside, inr (refl, omega arith)))
        (λ (d : q ≡ place → ⊥). let (j, k, e, within, b) = L.from q (omega (arith, h, get_or-set_other L.vs place q var 0 d)) in (j, k, e, within, more j k b))
        (same_or q place);
    to = λ j k h b. by j k h b;
  }
    where
      Held : ℕ → ℕ → Type 0
      Held j k =
          (get_or (set L.vs place var) (start_of c j + k) 0 ≡ variable_at l (start_of c j + k)) ×
          (owner_of (set (set places (2 * place) (get_or heads var 0)) (2 * place + 1) i) (start_of c j + k) ≡ j)

      old : (j k : ℕ) → k < length_of c j → Before j k i m → Held j k
      old j k h b =
          let d : start_of c j + k ≡ place → ⊥ = λ e. omega (arith, e, earlier j k h b) in
          let T = L.to j k h b in
          (get_or-set_other L.vs place (start_of c j + k) var 0 d ∙ T.0, owner_there L.chained place var i above fresh in_vs in_heads in_places (start_of c j + k) d ∙ T.1)

      new : Held i m
      new = (get_or-set_same L.vs place var 0 in_vs, owner_here L.chained place var i above fresh in_vs in_heads in_places)

      by : (j k : ℕ) → k < length_of c j → Before j k i (m + 1) → Held j k
      by j k h (inl b) = old j k h (inl b)
      by j k h (inr b) =
          ⊎_elim
          (λ (s : k ≡ m). subst (λ (x : ℕ). Held x k) (sym b.0) (subst (Held i) (sym s) new))
          (λ (d : k ≡ m → ⊥). old j k h (inr (b.0, omega (arith, b.1, d))))
          (same_or k m)

-- no place is linked
pub linking_none : (c : List ℕ) (l : List ℤ) (heads places : List ℕ) → ((w : ℕ) → get_or heads w 0 ≡ 0) → Linking 0 0 c l heads places
linking_none c l heads places none = record {
  vs = replicate 16384 0;
  size = length-replicate {A = ℕ} 16384 0;
  chained = record {
    last = λ w q h e. absurd (omega (arith, h, e, get_d_zeros 16384 q));
    head = λ w q h e. absurd (omega (arith, e, none w));
    before = λ p q h e lt. absurd (omega (arith, h, get_d_zeros 16384 p));
    next = λ p q h e. absurd (omega (arith, h, get_d_zeros 16384 p));
  };
  from = λ q h. absurd (omega (arith, h, get_d_zeros 16384 q));
  to = λ j k h b. ⊎_elim (λ (x : j < 0). absurd (omega (arith, x))) (λ (x : (j ≡ 0) × (k < 0)). absurd (omega (arith, x.1))) b;
}

-- the same for the place itself, with what the code has read
module _ {n i : ℕ} {c : List ℕ} {l : List ℤ} (K : Linkable n c l) (lt : i < n) (p w : ℕ) (low : start_of c i ≤ p) (high : p < start_of c i + length_of c i) (e : w ≡ variable_at l p) where
  at : start_of c i + (p - start_of c i) ≡ p
  at = omega (arith, low)

  inside : p - start_of c i < length_of c i
  inside = omega (arith, low, high)

  ranged : Literal 1024 (get_or l p (pos 0))
  ranged = subst (λ (x : ℕ). Literal 1024 (get_or l x (pos 0))) at (K.ranged i lt (p - start_of c i) inside)

  pub place_small : Small (get_or l p (pos 0))
  place_small = record { small = omega (arith, ranged.within) }

  pub place_room : (w < 1025) × (p < 16384)
  place_room = (omega (arith, e, ranged.within), omega (arith, K.parts.inside i lt, high))

  pub linking_step : {heads places : List ℕ} → ChainRoom heads places → Linking i (p - start_of c i) c l heads places → (heads' places' : List ℕ) → heads' ≡ set heads w (p + 1) → places' ≡ set (set places (2 * p) (get_or heads w 0)) (2 * p + 1) i
      → ChainRoom heads' places' × Linking i (p + 1 - start_of c i) c l heads' places'
  linking_step {heads} {places} R L heads' places' eh ep = (
    record { variables = omega (arith, R.variables, ap length eh, length-set heads w (p + 1)); records = omega (arith, R.records, ap length ep, length-set (set places (2 * p) (get_or heads w 0)) (2 * p + 1) i, length-set places (2 * p) (get_or heads w 0)) },
    subst (λ (x : ℕ). Linking i x c l heads' places') (let z : p - start_of c i + 1 ≡ p + 1 - start_of c i = omega (arith, low) in z)
        (subst₂ (λ (x y : List ℕ). Linking i (p - start_of c i + 1) c l x y) (sym eh) (sym ep)
        (subst (λ (x : ℕ). Linking i (p - start_of c i + 1) c l (set heads x (p + 1)) (set (set places (2 * p) (get_or heads x 0)) (2 * p + 1) i)) (sym e)
        (subst (λ (x : ℕ). Linking i (p - start_of c i + 1) c l (set heads (variable_at l x) (x + 1)) (set (set places (2 * x) (get_or heads (variable_at l x) 0)) (2 * x + 1) i)) at
        (linking_more K lt inside R L)))),
  )
