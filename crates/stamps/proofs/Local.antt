-- The rule of fresh stamps, said slot by slot in the terms of a scan over the times: what must be so when a slot is entered, and when it is left.
-- `slotwise` and `fresh_from`: the two are the same. Assumes nothing.
use Prim.Native.Nat.{ℕ, zero, suc, ◌+◌, ◌*◌, ◌≤◌, ◌<◌}
use native.Mathlib.Nat.{le_refl, le_trans}
use native.Mathlib.Omega.{arith}
use mathlib.Core.Path.{◌≡◌, refl, sym, ap, subst, ◌∙◌}
use mathlib.Core.Logic.{◌⊎◌, inl, inr, ⊎_elim}
use mathlib.Core.List.{List}
use lib.IntN.{ℤ}
use Rattle.base.specs.Decide.{same_or, le_or}
use Rattle.literal.specs.Literals.{Literal, slot_of, lit_at}
use Rattle.literal.proofs.Laws.{slot_lit, lit_slot, slot_below, lit_var}
use Rattle.stamps.specs.Fresh.{discovery_in, finish_in, parent_in, start_in, Holds, Times, NestedOrApart, Outermost, Parent, Start, FreshStamps}

-- u is open when s is entered
abbrev pub Around : List ℕ → ℕ → ℕ → Type 0
Around times u s = (discovery_in times u < discovery_in times s) × (discovery_in times s < finish_in times u)

-- s is entered under p, the slot entered last of those that are open
pub record Under (v : ℕ) (times : List ℕ) (links : List ℤ) (s p : ℕ) : Type 0 where
  pub slot : p < 2 * v
  pub parent : parent_in links s ≡ lit_at p
  pub start : start_in links s ≡ start_in links p
  pub around : Around times p s
  pub last : (u : ℕ) → u < 2 * v → Around times u s → discovery_in times u ≤ discovery_in times p

-- s is entered while none is open
pub record Root (v : ℕ) (times : List ℕ) (links : List ℤ) (s : ℕ) : Type 0 where
  pub parent : parent_in links s ≡ lit_at s
  pub start : start_in links s ≡ lit_at s
  pub alone : (u : ℕ) → u < 2 * v → Around times u s → ⊥

abbrev pub Entered : ℕ → List ℕ → List ℤ → ℕ → Type 0
Entered v times links s = Root v times links s ⊎ ((p : ℕ) × Under v times links s p)

-- s is left after it was entered, and after all that were entered since
pub record Left (v : ℕ) (times : List ℕ) (s : ℕ) : Type 0 where
  pub forward : discovery_in times s < finish_in times s
  pub inside : (u : ℕ) → u < 2 * v → discovery_in times s < discovery_in times u → discovery_in times u < finish_in times s → finish_in times u < finish_in times s

-- ---- times differ

module _ (v : ℕ) (times : List ℕ) (T : Times (4 * v) times) where
  pub same_slot : (p q : ℕ) → p < 2 * v → q < 2 * v → discovery_in times p ≡ discovery_in times q → p ≡ q
  same_slot p q lp lq e = omega (arith, T.once (2 * p) (omega arith) (2 * q) (omega arith) e)

  pub same_finish : (p q : ℕ) → p < 2 * v → q < 2 * v → finish_in times p ≡ finish_in times q → p ≡ q
  same_finish p q lp lq e = omega (arith, T.once (2 * p + 1) (omega arith) (2 * q + 1) (omega arith) e)

  pub not_both : (p q : ℕ) → p < 2 * v → q < 2 * v → discovery_in times p ≡ finish_in times q → ⊥
  not_both p q lp lq e = omega (arith, T.once (2 * p) (omega arith) (2 * q + 1) (omega arith) e)

  -- another interval around q begins earlier
  pub begins : (u q : ℕ) → u < 2 * v → q < 2 * v → (u ≡ q → ⊥) → Holds times u q → discovery_in times u < discovery_in times q
  begins u q lu lq d h = ⊎_elim (λ (e : discovery_in times q ≤ discovery_in times u). absurd (d (same_slot u q lu lq (omega arith)))) (λ e. e) (le_or (discovery_in times q) (discovery_in times u))

-- ---- from the rule to the slots

module _ (v : ℕ) (times : List ℕ) (links : List ℤ) (F : FreshStamps v times links) where
  abbrev D : ℕ → ℕ
  D s = discovery_in times s

  abbrev E : ℕ → ℕ
  E s = finish_in times s

  -- what is open when s is entered is around s
  around_holds : (u s : ℕ) → u < 2 * v → s < 2 * v → Around times u s → Holds times u s
  around_holds u s lu ls a = go (F.nested u lu s ls)
    where
      go : NestedOrApart times u s → Holds times u s
      go (inl (inl h)) = h
      go (inl (inr h)) = absurd (omega arith)
      go (inr (inl h)) = absurd (omega arith)
      go (inr (inr h)) = absurd (omega (arith, F.forward s ls))

  pub slot_left : (s : ℕ) → s < 2 * v → Left v times s
  slot_left s ls = record {
    forward = F.forward s ls;
    inside = λ u lu a b. ⊎_elim (λ (le : E s ≤ E u). absurd (go u lu a b le (F.nested s ls u lu))) (λ h. h) (le_or (E s) (E u));
  }
    where
      go : (u : ℕ) → u < 2 * v → D s < D u → D u < E s → E s ≤ E u → NestedOrApart times s u → ⊥
      go u lu a b le (inl (inl h)) = omega (arith, ap D (same_finish v times F.every_time u s lu ls (omega arith)))
      go u lu a b le (inl (inr h)) = omega arith
      go u lu a b le (inr (inl h)) = omega arith
      go u lu a b le (inr (inr h)) = omega (arith, F.forward u lu)

  -- of two slots, one inside the other, the start is the same
  same_start : (s p : ℕ) → s < 2 * v → p < 2 * v → Holds times p s → start_in links s ≡ start_in links p
  same_start s p ls lp h =
      let a = F.start s ls in
      let b = F.start p lp in
      let r = slot_of (start_in links s) in
      let q = slot_of (start_in links p) in
      let lr : r < 2 * v = slot_below (start_in links s) v (F.start_literal s ls).above (F.start_literal s ls).within in
      let lq : q < 2 * v = slot_below (start_in links p) v (F.start_literal p lp).above (F.start_literal p lp).within in
      let rp : Holds times r p = a.1 p lp h in
      let qr : Holds times q r = b.1 r lr rp in
      let rq : Holds times r q = a.1 q lq (le_trans b.0.0 h.0, le_trans h.1 b.0.1) in
      let e : r ≡ q = same_slot v times F.every_time r q lr lq (omega arith) in
      sym (lit_slot (start_in links s) (F.start_literal s ls).above) ∙ ap lit_at e ∙ lit_slot (start_in links p) (F.start_literal p lp).above

  pub slot_entered : (s : ℕ) → s < 2 * v → Entered v times links s
  slot_entered s ls = go (F.parent s ls)
    where
      p : ℕ
      p = slot_of (parent_in links s)

      lp : p < 2 * v
      lp = slot_below (parent_in links s) v (F.parent_literal s ls).above (F.parent_literal s ls).within

      is : parent_in links s ≡ lit_at p
      is = sym (lit_slot (parent_in links s) (F.parent_literal s ls).above)

      go : Parent (2 * v) times s p → Entered v times links s
      go (inl h) =
          let r = F.start s ls in
          let l : slot_of (start_in links s) < 2 * v = slot_below (start_in links s) v (F.start_literal s ls).above (F.start_literal s ls).within in
          let e : slot_of (start_in links s) ≡ s = h.1 (slot_of (start_in links s)) l r.0 in
          inl (record {
            parent = is ∙ ap lit_at h.0;
            start = sym (lit_slot (start_in links s) (F.start_literal s ls).above) ∙ ap lit_at e;
            alone = λ u lu a. omega (arith, ap D (h.1 u lu (around_holds u s lu ls a)));
          })
      go (inr h) =
          let b = begins v times F.every_time p s lp ls h.0 h.1 in
          inr (
            p,
            record {
              slot = lp;
              parent = is;
              start = same_start s p ls lp h.1;
              around = (b, omega (arith, F.forward s ls, h.1.1));
              last = λ u lu a. (h.2 u lu (λ e. omega (arith, ap D e, a.0)) (around_holds u s lu ls a)).0;
            },
          )

-- ---- from the slots to the rule

module _ (v : ℕ) (times : List ℕ) (links : List ℤ) (T : Times (4 * v) times)
    (entered : (s : ℕ) → s < 2 * v → Entered v times links s) (left : (s : ℕ) → s < 2 * v → Left v times s) where
  abbrev D' : ℕ → ℕ
  D' s = discovery_in times s

  abbrev E' : ℕ → ℕ
  E' s = finish_in times s

  -- a slot that begins while p is open lies within p, else after it
  ordered : (p q : ℕ) → p < 2 * v → q < 2 * v → D' p < D' q → Holds times p q ⊎ (E' p < D' q)
  ordered p q lp lq b =
      ⊎_elim
      (λ (h : D' q ≤ E' p). ⊎_elim (λ (k : E' p ≤ D' q). absurd (not_both v times T q p lq lp (omega arith))) (λ (k : D' q < E' p). inl (omega arith, omega (arith, (left p lp).inside q lq b k))) (le_or (E' p) (D' q)))
      inr
      (le_or (D' q) (E' p))

  nested : (p : ℕ) → p < 2 * v → (q : ℕ) → q < 2 * v → NestedOrApart times p q
  nested p lp q lq =
      ⊎_elim
      (λ (h : D' p ≤ D' q). ⊎_elim
      (λ (k : D' q ≤ D' p). let e = same_slot v times T p q lp lq (omega arith) in inl (inl (omega arith, omega (arith, ap E' e))))
      (λ (k : D' p < D' q). ⊎_elim (λ n. inl (inl n)) (λ a. inr (inl a)) (ordered p q lp lq k))
      (le_or (D' q) (D' p)))
      (λ (k : D' q < D' p). ⊎_elim (λ n. inl (inr n)) (λ a. inr (inr a)) (ordered q p lq lp k))
      (le_or (D' p) (D' q))

  -- another interval around q is open when q is entered
  holds_around : (u q : ℕ) → u < 2 * v → q < 2 * v → (u ≡ q → ⊥) → Holds times u q → Around times u q
  holds_around u q lu lq d h = (begins v times T u q lu lq d h, omega (arith, (left q lq).forward, h.1))

  module _ (q p : ℕ) (lq : q < 2 * v) (U : Under v times links q p) where
    under_holds : Holds times p q
    under_holds = (omega (arith, U.around.0), omega (arith, (left p U.slot).inside q lq U.around.0 U.around.1))

    -- every other interval around q is around p
    narrow : (u : ℕ) → u < 2 * v → (u ≡ q → ⊥) → Holds times u q → Holds times u p
    narrow u lu d h =
        let a = holds_around u q lu lq d h in
        let l = U.last u lu a in (
          l,
          ⊎_elim
              (λ (e : u ≡ p). omega (arith, ap E' e))
              (λ (n : u ≡ p → ⊥). ⊎_elim
              (λ (k : D' p ≤ D' u). absurd (n (same_slot v times T u p lu U.slot (omega arith))))
              (λ (k : D' u < D' p). omega (arith, (left u lu).inside p U.slot k (omega (arith, U.around.0, a.1))))
              (le_or (D' p) (D' u)))
              (same_or u p),
        )

  outermost : (q : ℕ) → q < 2 * v → Root v times links q → Outermost (2 * v) times q
  outermost q lq R u lu h = ⊎_elim (λ (e : u ≡ q). e) (λ d. absurd (R.alone u lu (holds_around u q lu lq d h))) (same_or u q)

  -- a slot's literal has that slot
  Linked : ℤ → (ℕ → Type 0) → Type 0
  Linked l P = Literal v l × P (slot_of l)

  linked : (l : ℤ) (p : ℕ) (P : ℕ → Type 0) → p < 2 * v → l ≡ lit_at p → P p → Linked l P
  unfolding Linked
  linked l p P lp e h = subst (λ (k : ℤ). Literal v k × P (slot_of k)) (sym e) (record { above = omega (arith, lit_var p); within = omega (arith, lit_var p) }, subst P (sym (slot_lit p)) h)

  parent : (q : ℕ) → q < 2 * v → Linked (parent_in links q) (Parent (2 * v) times q)
  parent q lq =
      ⊎_elim
      (λ (R : Root v times links q). linked (parent_in links q) q (Parent (2 * v) times q) lq R.parent (inl (refl, outermost q lq R)))
      (λ (u : (p : ℕ) × Under v times links q p). let U = u.1 in
      linked (parent_in links q) u.0 (Parent (2 * v) times q) U.slot U.parent
      (inr (λ e. omega (arith, ap D' e, U.around.0), under_holds q u.0 lq U, narrow q u.0 lq U)))
      (entered q lq)

  -- the start, by induction on the discovery
  start_in_lem : (n q : ℕ) → D' q ≤ n → q < 2 * v → Linked (start_in links q) (Start (2 * v) times q)
  unfolding Linked
  start_in_lem zero q le lq = absurd (omega (arith, (T.ranged (2 * q) (omega arith)).0))
  start_in_lem (suc n) q le lq =
      ⊎_elim
      (λ (R : Root v times links q). linked (start_in links q) q (Start (2 * v) times q) lq R.start
      ((le_refl _, le_refl _), λ u lu h. let e = outermost q lq R u lu h in (omega (arith, ap D' e), omega (arith, ap E' e))))
      (λ (w : (p : ℕ) × Under v times links q p).
      let p = w.0 in
      let U = w.1 in
      let i = start_in_lem n p (omega (arith, U.around.0)) U.slot in
      let h = under_holds q p lq U in
      let r = i.1 in
      subst (λ (k : ℤ). Literal v k × Start (2 * v) times q (slot_of k)) (sym U.start) (
        i.0,
        (
          (le_trans r.0.0 h.0, le_trans h.1 r.0.1),
          λ u lu k. ⊎_elim
              (λ (e : u ≡ q). (omega (arith, ap D' e, r.0.0, h.0), omega (arith, ap E' e, r.0.1, h.1)))
              (λ d. r.1 u lu (narrow q p lq U u lu d k))
              (same_or u q),
        ),
      ))
      (entered q lq)

  pub fresh_from : FreshStamps v times links
  unfolding Linked
  fresh_from = record {
    every_time = T;
    forward = λ s l. (left s l).forward;
    nested = nested;
    parent_literal = λ q l. (parent q l).0;
    parent = λ q l. (parent q l).1;
    start_literal = λ q l. (start_in_lem (D' q) q (le_refl _) l).0;
    start = λ q l. (start_in_lem (D' q) q (le_refl _) l).1;
  }
