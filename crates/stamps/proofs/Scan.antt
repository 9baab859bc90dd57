-- The scan over the times. After time t, `Passed t` says that every slot entered or left by then was so rightly, and `Stack t current` that `current` is the literal
-- entered last of those still open, with its start, or none where none is open. At each time the tests of the code hold exactly if the slot's step is right, and then both
-- facts hold of the next time. Assumes nothing.
use Prim.Native.Nat.{ℕ, ◌+◌, ◌*◌, ◌-◌, ◌/◌, ◌%◌, ◌≤◌, ◌<◌}
use native.Mathlib.Omega.{arith}
use mathlib.Core.Path.{◌≡◌, refl, sym, ap, subst, ◌∙◌}
use mathlib.Core.Logic.{◌⊎◌, inl, inr, ⊎_elim}
use mathlib.Core.List.{List}
use lib.ListN.{get_or}
use lib.IntN.{ℤ, pos}
use Rattle.std.proofs.Common.{Option, Some, None, unwrap_or}
use Rattle.base.specs.Decide.{same_or, le_or}
use Rattle.literal.specs.Literals.{slot_of, lit_at}
use Rattle.literal.proofs.Laws.{slot_lit}
use Rattle.stamps.specs.Fresh.{discovery_in, finish_in, parent_in, start_in, Times, FreshStamps}
use Rattle.stamps.specs.Index.{Indexed}
use Rattle.stamps.proofs.Local.{Around, Under, Root, Entered, Left, same_slot, same_finish, not_both, slot_entered, slot_left, fresh_from}

-- around a slot that is entered: its parent and its start, by what is open; s where nothing is
abbrev pub parent_by : Option (ℤ × ℤ) → ℤ → ℤ
parent_by current l = (unwrap_or current (l, l)).0

abbrev pub start_by : Option (ℤ × ℤ) → ℤ → ℤ
start_by current l = (unwrap_or current (l, l)).1

pub same_open : (a b c d : ℤ) → ◌≡◌ {A = Option (ℤ × ℤ)} (Some (a, b)) (Some (c, d)) → (a ≡ c) × (b ≡ d)
same_open a b c d e = (ap (λ (o : Option (ℤ × ℤ)). (unwrap_or o (a, b)).0) e, ap (λ (o : Option (ℤ × ℤ)). (unwrap_or o (a, b)).1) e)

-- an index tells that the times are 1 to n, once each
pub indexed_times : (n : ℕ) (times index : List ℕ) → Indexed n times index → Times n times
indexed_times n times index I = record {
  ranged = λ k l. ((I.placed k l).0, (I.placed k l).1);
  once = λ j lj k lk e. omega (arith, (I.placed j lj).2, (I.placed k lk).2, ap (λ (t : ℕ). get_or index (t - 1) 0) e);
}

-- ---- the state of the scan after time t

abbrev pub Open : List ℕ → ℕ → ℕ → Type 0
Open times t u = (discovery_in times u ≤ t) × (t < finish_in times u)

pub record Passed (v : ℕ) (times : List ℕ) (links : List ℤ) (t : ℕ) : Type 0 where
  pub entered : (s : ℕ) → s < 2 * v → discovery_in times s ≤ t → Entered v times links s
  pub left : (s : ℕ) → s < 2 * v → finish_in times s ≤ t → Left v times s

-- no slot is open
pub record Idle (v : ℕ) (times : List ℕ) (t : ℕ) (current : Option (ℤ × ℤ)) : Type 0 where
  pub none : current ≡ None
  pub closed : (u : ℕ) → u < 2 * v → Open times t u → ⊥

-- p is open, and no open slot was entered later
pub record Within (v : ℕ) (times : List ℕ) (links : List ℤ) (t : ℕ) (current : Option (ℤ × ℤ)) (p : ℕ) : Type 0 where
  pub slot : p < 2 * v
  pub is : current ≡ Some (lit_at p, start_in links p)
  pub at : Open times t p
  pub last : (u : ℕ) → u < 2 * v → Open times t u → discovery_in times u ≤ discovery_in times p

abbrev pub Stack : ℕ → List ℕ → List ℤ → ℕ → Option (ℤ × ℤ) → Type 0
Stack v times links t current = Idle v times t current ⊎ ((p : ℕ) × Within v times links t current p)

module _ (v : ℕ) (times : List ℕ) (links : List ℤ) (T : Times (4 * v) times) where
  abbrev D : ℕ → ℕ
  D s = discovery_in times s

  abbrev E : ℕ → ℕ
  E s = finish_in times s

  pub begin : Passed v times links 0 × Stack v times links 0 None
  begin = (
    record { entered = λ s l h. absurd (omega (arith, (T.ranged (2 * s) (omega arith)).0)); left = λ s l h. absurd (omega (arith, (T.ranged (2 * s + 1) (omega arith)).0)) },
    inl (record { none = refl; closed = λ u l h. omega (arith, h.0, (T.ranged (2 * u) (omega arith)).0) }),
  )

  -- after the last time all is said
  pub finished : (t : ℕ) → 4 * v ≤ t → Passed v times links t → FreshStamps v times links
  finished t h P = fresh_from v times links T (λ s l. P.entered s l (omega (arith, (T.ranged (2 * s) (omega arith)).1))) (λ s l. P.left s l (omega (arith, (T.ranged (2 * s + 1) (omega arith)).1)))

  -- ---- slot s is entered at time t + 1

  module _ (t s : ℕ) (current : Option (ℤ × ℤ)) (P : Passed v times links t) (S : Stack v times links t current) (ls : s < 2 * v) (now : D s ≡ t + 1) where
    -- what is around s is what is open
    around_open : (u : ℕ) → u < 2 * v → Around times u s → Open times t u
    around_open u lu a = (omega (arith, a.0, now), omega (arith, a.1, now))

    open_around : (u : ℕ) → u < 2 * v → Open times t u → Around times u s
    open_around u lu o = (omega (arith, o.0, now), ⊎_elim (λ (h : E u ≤ D s). absurd (not_both v times T s u ls lu (omega (arith, o.1, now)))) (λ h. h) (le_or (E u) (D s)))

    -- the tests, from the step
    pub enter_tests : Entered v times links s → (parent_in links s ≡ parent_by current (lit_at s)) × (start_in links s ≡ start_by current (lit_at s))
    enter_tests e = ⊎_elim idle within S
      where
        idle : Idle v times t current → (parent_in links s ≡ parent_by current (lit_at s)) × (start_in links s ≡ start_by current (lit_at s))
        idle I =
            ⊎_elim
            (λ (R : Root v times links s). rw I.none (R.parent, R.start))
            (λ (w : (p : ℕ) × Under v times links s p). absurd (I.closed w.0 w.1.slot (around_open w.0 w.1.slot w.1.around)))
            e

        within : ((p : ℕ) × Within v times links t current p) → (parent_in links s ≡ parent_by current (lit_at s)) × (start_in links s ≡ start_by current (lit_at s))
        within w =
            let p = w.0 in
            let W = w.1 in
            ⊎_elim
            (λ (R : Root v times links s). absurd (R.alone p W.slot (open_around p W.slot W.at)))
            (λ (x : (q : ℕ) × Under v times links s q).
            let q = x.0 in
            let U = x.1 in
            let same : q ≡ p = same_slot v times T q p U.slot W.slot (omega (arith, W.last q U.slot (around_open q U.slot U.around), U.last p W.slot (open_around p W.slot W.at))) in
            rw W.is (U.parent ∙ ap lit_at same, U.start ∙ ap (start_in links) same))
            e

    -- the step, from the tests
    pub enter_right : parent_in links s ≡ parent_by current (lit_at s) → start_in links s ≡ start_by current (lit_at s) → Entered v times links s
    enter_right e₁ e₂ = ⊎_elim idle within S
      where
        idle : Idle v times t current → Entered v times links s
        idle I = inl (record {
          parent = rw I.none at e₁;
          start = rw I.none at e₂;
          alone = λ u lu a. I.closed u lu (around_open u lu a);
        })

        within : ((p : ℕ) × Within v times links t current p) → Entered v times links s
        within w = let p = w.0 in let W = w.1 in inr (
          p,
          record {
            slot = W.slot;
            parent = rw W.is at e₁;
            start = rw W.is at e₂;
            around = open_around p W.slot W.at;
            last = λ u lu a. W.last u lu (around_open u lu a);
          },
        )

    pub enter_passed : Entered v times links s → Passed v times links (t + 1)
    enter_passed e = record {
      entered = λ u lu h. ⊎_elim
          (λ (k : D u ≤ t). P.entered u lu k)
          (λ (k : t < D u). subst (Entered v times links) (same_slot v times T s u ls lu (omega arith)) e)
          (le_or (D u) t);
      left = λ u lu h. P.left u lu (⊎_elim (λ (k : E u ≤ t). k) (λ (k : t < E u). absurd (not_both v times T s u ls lu (omega arith))) (le_or (E u) t));
    }

    pub enter_stack : start_in links s ≡ start_by current (lit_at s) → Stack v times links (t + 1) (Some (lit_at s, start_by current (lit_at s)))
    enter_stack e = inr (
      s,
      record {
        slot = ls;
        is = ap (λ (z : ℤ). Some (lit_at s, z)) (sym e);
        at = (
          omega arith,
          ⊎_elim
              (λ (h : E s ≤ t + 1). absurd (⊎_elim
              (λ (k : E s ≤ t). omega (arith, (P.left s ls k).forward, now))
              (λ (k : t < E s). not_both v times T s s ls ls (omega (arith, now)))
              (le_or (E s) t)))
              (λ h. h)
              (le_or (E s) (t + 1)),
        );
        last = λ u lu o. omega (arith, o.0, now);
      },
    )

  -- ---- slot s is left at time t + 1

  module _ (t s : ℕ) (current : Option (ℤ × ℤ)) (P : Passed v times links t) (S : Stack v times links t current) (ls : s < 2 * v) (now : E s ≡ t + 1) where
    -- s is the slot that was open
    here : (root : ℤ) → current ≡ Some (lit_at s, root) → Within v times links t current s
    here root e = ⊎_elim
        (λ (I : Idle v times t current). absurd (let z = sym I.none ∙ e in let o : ◌≡◌ {A = ℕ} 0 1 = cc in omega arith))
        (λ (w : (p : ℕ) × Within v times links t current p).
        let o = same_open (lit_at w.0) (start_in links w.0) (lit_at s) root (sym w.1.is ∙ e) in
        subst (Within v times links t current) (sym (slot_lit w.0) ∙ ap slot_of o.0 ∙ slot_lit s) w.1)
        S

    pub leave_right : (root : ℤ) → current ≡ Some (lit_at s, root) → Left v times s
    leave_right root e =
        let W = here root e in
        record {
          forward = omega (arith, W.at.0, now);
          inside = λ u lu a b. ⊎_elim
              (λ (h : E s ≤ E u). absurd (⊎_elim
              (λ (k : E u ≤ E s). omega (arith, a, ap D (same_finish v times T u s lu ls (omega arith))))
              (λ (k : E s < E u). omega (arith, W.last u lu (omega arith, omega arith)))
              (le_or (E u) (E s))))
              (λ h. h)
              (le_or (E s) (E u));
        }

    pub leave_test : Left v times s → current ≡ Some (lit_at s, start_in links s)
    leave_test L = ⊎_elim
        (λ (I : Idle v times t current). absurd (I.closed s ls (omega (arith, L.forward, now), omega arith)))
        (λ (w : (p : ℕ) × Within v times links t current p).
        let W = w.1 in
        let le = W.last s ls (omega (arith, L.forward, now), omega arith) in
        W.is ∙ ap (λ (q : ℕ). Some (lit_at q, start_in links q)) (⊎_elim
        (λ (e : w.0 ≡ s). e)
        (λ (n : w.0 ≡ s → ⊥). absurd (⊎_elim
        (λ (k : D w.0 ≤ D s). n (same_slot v times T w.0 s W.slot ls (omega arith)))
        (λ (k : D s < D w.0). omega (arith, L.inside w.0 W.slot k (omega (arith, W.at.0, now)), W.at.1, now))
        (le_or (D w.0) (D s))))
        (same_or w.0 s)))
        S

    pub leave_passed : Left v times s → Passed v times links (t + 1)
    leave_passed L = record {
      entered = λ u lu h. P.entered u lu (⊎_elim (λ (k : D u ≤ t). k) (λ (k : t < D u). absurd (not_both v times T u s lu ls (omega arith))) (le_or (D u) t));
      left = λ u lu h. ⊎_elim
          (λ (k : E u ≤ t). P.left u lu k)
          (λ (k : t < E u). subst (Left v times) (same_finish v times T s u ls lu (omega arith)) L)
          (le_or (E u) t);
    }

    module _ (root : ℤ) (e : current ≡ Some (lit_at s, root)) where
      -- what is open after s was open when s was entered
      still_around : (u : ℕ) → u < 2 * v → Open times (t + 1) u → Around times u s
      still_around u lu o =
          let W = here root e in
          let le : D u ≤ t = ⊎_elim (λ (k : D u ≤ t). k) (λ (k : t < D u). absurd (not_both v times T u s lu ls (omega (arith, o.0, now)))) (le_or (D u) t) in
          let l = W.last u lu (le, omega (arith, o.1)) in (
            ⊎_elim
                (λ (k : D s ≤ D u). absurd (omega (arith, o.1, now, ap E (same_slot v times T u s lu ls (omega arith)))))
                (λ k. k)
                (le_or (D s) (D u)),
            omega (arith, W.at.0, o.1),
          )

      was_entered : Entered v times links s
      was_entered = P.entered s ls (here root e).at.0

      pub leave_idle : parent_in links s ≡ lit_at s → Stack v times links (t + 1) None
      leave_idle q = ⊎_elim
          (λ (R : Root v times links s). inl (record { none = refl; closed = λ u lu o. R.alone u lu (still_around u lu o) }))
          (λ (w : (p : ℕ) × Under v times links s p). absurd (omega (arith, w.1.around.0, ap D (sym (slot_lit w.0) ∙ ap slot_of (sym w.1.parent ∙ q) ∙ slot_lit s))))
          was_entered

      pub leave_up : (parent_in links s ≡ lit_at s → ⊥) → Stack v times links (t + 1) (Some (parent_in links s, root))
      leave_up n = ⊎_elim
          (λ (R : Root v times links s). absurd (n R.parent))
          (λ (w : (p : ℕ) × Under v times links s p).
          let p = w.0 in
          let U = w.1 in
          let W = here root e in
          inr (
            p,
            record {
              slot = U.slot;
              is = λ i. Some (U.parent i, ((same_open (lit_at s) root (lit_at s) (start_in links s) (sym e ∙ W.is)).1 ∙ U.start) i);
              at = (
                omega (arith, U.around.0, W.at.0),
                ⊎_elim
                    (λ (k : E p ≤ t + 1). absurd (⊎_elim
                    (λ (j : E p ≤ t). omega (arith, (P.left p U.slot j).inside s ls U.around.0 U.around.1, now))
                    (λ (j : t < E p). omega (arith, U.around.0, ap D (same_finish v times T p s U.slot ls (omega (arith, now)))))
                    (le_or (E p) t)))
                    (λ k. k)
                    (le_or (E p) (t + 1)),
              );
              last = λ u lu o. U.last u lu (still_around u lu o);
            },
          ))
          was_entered

-- ---- the same in the terms of the loop: after time t, for any times that the index is of

pub record Scanning (v : ℕ) (index : List ℕ) (links : List ℤ) (t : ℕ) (current : Option (ℤ × ℤ)) : Type 0 where
  pub within : t ≤ 4 * v
  pub so_far : (times : List ℕ) → Indexed (4 * v) times index → Passed v times links t × Stack v times links t current

pub scanning_done : (v : ℕ) (index : List ℕ) (links : List ℤ) (t : ℕ) (current : Option (ℤ × ℤ)) → Scanning v index links t current → 4 * v ≤ t
    → (times : List ℕ) → Indexed (4 * v) times index → FreshStamps v times links
scanning_done v index links t current S h times I = finished v times links (indexed_times (4 * v) times index I) t h (S.so_far times I).0

module _ (v : ℕ) (index : List ℕ) (links : List ℤ) (t : ℕ) (current : Option (ℤ × ℤ)) (S : Scanning v index links t current) (lt : t < 4 * v)
    (k : ℕ) (is-k : k ≡ get_or index t 0 - 1) where
  -- the place that the index names has time t + 1
  at_place : (times : List ℕ) → Indexed (4 * v) times index → (k < 4 * v) × (get_or times k 0 ≡ t + 1)
  at_place times I =
      let f = I.found t lt in
      let e : f.0 ≡ k = omega (arith, f.2, is-k) in
      (omega (arith, f.1), sym (ap (λ (j : ℕ). get_or times j 0) e) ∙ f.3)

  -- ---- an even place is a discovery

  module _ (even : k % 2 ≡ 0) where
    double : 2 * (k / 2) ≡ k
    double = omega arith

    parent_at : parent_in links (k / 2) ≡ get_or links k (pos 0)
    parent_at = ap (λ (j : ℕ). get_or links j (pos 0)) double

    start_at : start_in links (k / 2) ≡ get_or links (k + 1) (pos 0)
    start_at = ap (λ (j : ℕ). get_or links (j + 1) (pos 0)) double

    discovery_at_lem : (times : List ℕ) → Indexed (4 * v) times index → discovery_in times (k / 2) ≡ t + 1
    discovery_at_lem times I = ap (λ (j : ℕ). get_or times j 0) double ∙ (at_place times I).1

    pub scan_enter : get_or links k (pos 0) ≡ parent_by current (lit_at (k / 2)) → get_or links (k + 1) (pos 0) ≡ start_by current (lit_at (k / 2))
        → Scanning v index links (t + 1) (Some (lit_at (k / 2), start_by current (lit_at (k / 2))))
    scan_enter e₁ e₂ = record {
      within = omega arith;
      so_far = λ times I.
          let T = indexed_times (4 * v) times index I in
          let s = S.so_far times I in
          let ls : k / 2 < 2 * v = omega (arith, (at_place times I).0) in
          let now = discovery_at_lem times I in (
            enter_passed v times links T t (k / 2) current s.0 s.1 ls now (enter_right v times links T t (k / 2) current s.0 s.1 ls now (parent_at ∙ e₁) (start_at ∙ e₂)),
            enter_stack v times links T t (k / 2) current s.0 s.1 ls now (start_at ∙ e₂),
          );
    }

    pub enter_must : (times : List ℕ) → Indexed (4 * v) times index → FreshStamps v times links
        → (get_or links k (pos 0) ≡ parent_by current (lit_at (k / 2))) × (get_or links (k + 1) (pos 0) ≡ start_by current (lit_at (k / 2)))
    enter_must times I F =
        let s = S.so_far times I in
        let ls : k / 2 < 2 * v = omega (arith, (at_place times I).0) in
        let e = enter_tests v times links (indexed_times (4 * v) times index I) t (k / 2) current s.0 s.1 ls (discovery_at_lem times I) (slot_entered v times links F (k / 2) ls) in
        (sym parent_at ∙ e.0, sym start_at ∙ e.1)

  -- ---- an odd place is a finish

  module _ (odd : k % 2 ≡ 0 → ⊥) where
    before_at : parent_in links (k / 2) ≡ get_or links (k - 1) (pos 0)
    before_at = let e : 2 * (k / 2) ≡ k - 1 = omega arith in ap (λ (j : ℕ). get_or links j (pos 0)) e

    finish_at : (times : List ℕ) → Indexed (4 * v) times index → finish_in times (k / 2) ≡ t + 1
    finish_at times I = let e : 2 * (k / 2) + 1 ≡ k = omega arith in ap (λ (j : ℕ). get_or times j 0) e ∙ (at_place times I).1

    module _ (root : ℤ) (e : current ≡ Some (lit_at (k / 2), root)) where
      passed : (times : List ℕ) → Indexed (4 * v) times index → Passed v times links (t + 1)
      passed times I =
          let T = indexed_times (4 * v) times index I in
          let s = S.so_far times I in
          let ls : k / 2 < 2 * v = omega (arith, (at_place times I).0) in
          let now = finish_at times I in
          leave_passed v times links T t (k / 2) current s.0 s.1 ls now (leave_right v times links T t (k / 2) current s.0 s.1 ls now root e)

      pub scan_leave_root : get_or links (k - 1) (pos 0) ≡ lit_at (k / 2) → Scanning v index links (t + 1) None
      scan_leave_root q = record {
        within = omega arith;
        so_far = λ times I.
            let s = S.so_far times I in
            (passed times I, leave_idle v times links (indexed_times (4 * v) times index I) t (k / 2) current s.0 s.1 (omega (arith, (at_place times I).0)) (finish_at times I) root e (before_at ∙ q));
      }

      pub scan_leave : (get_or links (k - 1) (pos 0) ≡ lit_at (k / 2) → ⊥) → Scanning v index links (t + 1) (Some (get_or links (k - 1) (pos 0), root))
      scan_leave n = record {
        within = omega arith;
        so_far = λ times I.
            let s = S.so_far times I in (
              passed times I,
              subst (λ (l : ℤ). Stack v times links (t + 1) (Some (l, root))) before_at
                  (leave_up v times links (indexed_times (4 * v) times index I) t (k / 2) current s.0 s.1 (omega (arith, (at_place times I).0)) (finish_at times I) root e (λ q. n (sym before_at ∙ q))),
            );
      }

    pub leave_must : (times : List ℕ) → Indexed (4 * v) times index → FreshStamps v times links → current ≡ Some (lit_at (k / 2), start_in links (k / 2))
    leave_must times I F =
        let s = S.so_far times I in
        let ls : k / 2 < 2 * v = omega (arith, (at_place times I).0) in
        leave_test v times links (indexed_times (4 * v) times index I) t (k / 2) current s.0 s.1 ls (finish_at times I) (slot_left v times links F (k / 2) ls)
