-- What is in the window. Document 02, CR 1: "a window of our solver's last 64 learnt clauses .. when a 65th is kept the eldest leaves."
-- THE LAW: of a window that keeps the rule, the clauses after one is kept are the last 64 of those before with the new one behind them (`keep_clauses`). A load leaves none (`emptied_clauses`), in a window that keeps the rule (`emptied_ruled`).
-- Assumes nothing.
use Prim.Native.Nat.{ℕ, zero, suc, ◌+◌, ◌*◌, ◌-◌, ◌≤◌, ◌<◌}
use native.Mathlib.Omega.{arith}
use native.Mathlib.Nat.{add-zero}
use native.Mathlib.Numerals.{add-one}
use mathlib.Core.Path.{◌≡◌, refl, sym, ap, subst, ◌∙◌}
use mathlib.Core.List.{List, [], ◌∷◌, ◌++◌}
use lib.ListN.{length, get_or, take, drop, replicate, length-drop, length-append, length-replicate}
use lib.Seq.{ext_get_or, get_or-take, get_or-drop, length-take-le, take-length, drop-append-le}
use lib.IntN.{ℤ, pos}
use Rattle.window.specs.Window.{Places, size_of, total_of, clause_of, clauses_from, clauses_of, youngest, last_of, emptied, eldest_left, put, keep}
use Rattle.window.specs.Rule.{Newcomer, LongWindow, WindowRule}
use Rattle.window.proofs.Places.{put_long, put_size, put_size_last, put_place, put_place_last, left_long, left_size, left_place}
use Rattle.window.proofs.Keeping.{left_ruled, left_few, keep_cases}

-- ---- parts of two tables that hold the same

part_same : {A : Type 0} (d : A) (xs ys : List A) (a b m n : ℕ) → m ≡ n → a + m ≤ length xs → b + n ≤ length ys → ((k : ℕ) → k < n → get_or xs (a + k) d ≡ get_or ys (b + k) d) → take m (drop a xs) ≡ take n (drop b ys)
part_same d xs ys a b m n e ha hb same =
    let la : length (take m (drop a xs)) ≡ m = length-take-le m (drop a xs) (omega (arith, ha, length-drop a xs)) in
    let lb : length (take n (drop b ys)) ≡ n = length-take-le n (drop b ys) (omega (arith, hb, length-drop b ys)) in
    ext_get_or d (take m (drop a xs)) (take n (drop b ys)) (la ∙ e ∙ sym lb)
    (λ k h. get_or-take m (drop a xs) k d (omega (arith, h, la)) ∙ get_or-drop a xs k d ∙ same k (omega (arith, h, la, e)) ∙ sym (get_or-drop b ys k d) ∙ sym (get_or-take n (drop b ys) k d (omega (arith, h, la, e))))

-- ---- lists of clauses

clauses_same : (k k' n : ℕ) (w w' : Places) → ((j : ℕ) → j < n → clause_of w (k + j) ≡ clause_of w' (k' + j)) → clauses_from k n w ≡ clauses_from k' n w'
unfolding clauses_from
clauses_same k k' zero w w' h = refl
clauses_same k k' (suc n) w w' h =
    let first : clause_of w k ≡ clause_of w' k' = ap (clause_of w) (sym (add-zero k)) ∙ h 0 (omega arith) ∙ ap (clause_of w') (add-zero k') in
    let rest = clauses_same (suc k) (suc k') n w w' (λ j l. ap (clause_of w) (let q : suc k + j ≡ k + suc j = omega arith in q) ∙ h (suc j) (omega (arith, l)) ∙ ap (clause_of w') (let q : k' + suc j ≡ suc k' + j = omega arith in q)) in
    λ i. first i ∷ rest i

clauses_snoc : (k n : ℕ) (w : Places) → clauses_from k (suc n) w ≡ clauses_from k n w ++ (clause_of w (k + n) ∷ [])
unfolding clauses_from
clauses_snoc k zero w = ap (λ (i : ℕ). clause_of w i ∷ []) (sym (add-zero k))
clauses_snoc k (suc n) w = ap (λ (cs : List (List ℤ)). clause_of w k ∷ cs) (clauses_snoc (suc k) n w ∙ ap (λ (i : ℕ). clauses_from (suc k) n w ++ (clause_of w i ∷ [])) (let q : suc k + n ≡ k + suc n = omega arith in q))

-- ---- the clauses after a change

put_counted : (C : List ℤ) (w : Places) → (put C w).window.clauses ≡ suc w.window.clauses
unfolding put
put_counted C w = add-one w.window.clauses

left_counted : (w : Places) → w.window.clauses ≡ 64 → (eldest_left w).window.clauses ≡ 63
unfolding eldest_left
left_counted w e = omega (arith, e)

module _ {v : ℕ} {C : List ℤ} {w : Places} (R : WindowRule v w) (N : Newcomer v C) where
  put_last : w.window.clauses < 64 → clause_of (put C w) w.window.clauses ≡ C
  put_last lt =
      let e = put_size_last C w N.few R.long lt in
      part_same (pos 0) (put C w).learnt C (64 * w.window.clauses) 0 (size_of (put C w).sizes w.window.clauses) (length C) e (omega (arith, e, N.few, lt, (put_long C w N.few R.long lt).learnt)) (omega arith)
      (λ k h. put_place_last C w N.few R.long lt k h ∙ ap (λ (i : ℕ). get_or C i (pos 0)) (let z : k ≡ 0 + k = omega arith in z))
      ∙ take-length C

  put_clauses : w.window.clauses < 64 → clauses_of (put C w) ≡ clauses_of w ++ (C ∷ [])
  put_clauses lt =
      ap (λ (n : ℕ). clauses_from 0 n (put C w)) (put_counted C w)
      ∙ clauses_snoc 0 w.window.clauses (put C w)
      ∙ (λ i. clauses_same 0 0 w.window.clauses (put C w) w old i ++ (new i ∷ []))
    where
      long : LongWindow (put C w)
      long = put_long C w N.few R.long lt

      old : (j : ℕ) → j < w.window.clauses → clause_of (put C w) (0 + j) ≡ clause_of w (0 + j)
      old j l =
          let q : 0 + j ≡ j = omega arith in
          let r = R.each j l in
          let e = put_size C w N.few R.long lt j l in
          subst (λ (i : ℕ). clause_of (put C w) i ≡ clause_of w i) (sym q)
          (part_same (pos 0) (put C w).learnt w.learnt (64 * j) (64 * j) (size_of (put C w).sizes j) (size_of w.sizes j) e (omega (arith, e, r.few, l, lt, long.learnt)) (omega (arith, r.few, l, lt, R.long.learnt))
          (λ k h. put_place C w N.few R.long lt j l k (omega (arith, h, r.few))))

      new : clause_of (put C w) (0 + w.window.clauses) ≡ C
      new = ap (clause_of (put C w)) (let q : 0 + w.window.clauses ≡ w.window.clauses = omega arith in q) ∙ put_last lt

module _ {v : ℕ} {w : Places} (R : WindowRule v w) where
  left_clauses : w.window.clauses ≡ 64 → clauses_of (eldest_left w) ≡ drop 1 (clauses_of w)
  unfolding clauses_from
  left_clauses e =
      ap (λ (n : ℕ). clauses_from 0 n (eldest_left w)) (left_counted w e)
      ∙ clauses_same 0 1 63 (eldest_left w) w moved
      ∙ ap (λ (n : ℕ). drop 1 (clauses_from 0 n w)) (sym e)
    where
      moved : (j : ℕ) → j < 63 → clause_of (eldest_left w) (0 + j) ≡ clause_of w (1 + j)
      moved j l =
          let q : 0 + j ≡ j = omega arith in
          let p : suc j ≡ 1 + j = omega arith in
          let r = R.each (suc j) (omega (arith, l, e)) in
          let s = left_size w R.long j l in
          ap (clause_of (eldest_left w)) q
          ∙ part_same (pos 0) (eldest_left w).learnt w.learnt (64 * j) (64 * suc j) (size_of (eldest_left w).sizes j) (size_of w.sizes (suc j)) s (omega (arith, s, r.few, l, (left_long w R.long).learnt)) (omega (arith, r.few, l, R.long.learnt))
          (λ k h. left_place w R.long j l k (omega (arith, h, r.few)))
          ∙ ap (clause_of w) p

-- ---- the law

clauses_length : (k n : ℕ) (w : Places) → length (clauses_from k n w) ≡ n
unfolding clauses_from
clauses_length k zero w = refl
clauses_length k (suc n) w = ap suc (clauses_length (suc k) n w)

-- of 65 the last 64
last_full : (cs : List (List ℤ)) (C : List ℤ) → length cs ≡ 64 → last_of 64 (cs ++ (C ∷ [])) ≡ drop 1 cs ++ (C ∷ [])
unfolding last_of
last_full cs C e = ap (λ (n : ℕ). drop n (cs ++ (C ∷ []))) (let q : length (cs ++ (C ∷ [])) - 64 ≡ 1 = omega (arith, e, length-append cs (C ∷ [])) in q) ∙ drop-append-le 1 cs (C ∷ []) (omega (arith, e))

last_all : (cs : List (List ℤ)) (C : List ℤ) → length cs < 64 → last_of 64 (cs ++ (C ∷ [])) ≡ cs ++ (C ∷ [])
unfolding last_of
last_all cs C h = ap (λ (n : ℕ). drop n (cs ++ (C ∷ []))) (let q : length (cs ++ (C ∷ [])) - 64 ≡ 0 = omega (arith, h, length-append cs (C ∷ [])) in q)

pub keep_clauses : {v : ℕ} {C : List ℤ} {w : Places} → WindowRule v w → Newcomer v C → clauses_of (keep C w) ≡ last_of 64 (clauses_of w ++ (C ∷ []))
keep_clauses {v} {C} {w} R N = keep_cases C w (λ (x : Places). clauses_of x ≡ last_of 64 (clauses_of w ++ (C ∷ []))) full room
  where
    full : w.window.clauses ≡ 64 → clauses_of (put C (eldest_left w)) ≡ last_of 64 (clauses_of w ++ (C ∷ []))
    full e =
        put_clauses (left_ruled R e) N (left_few w e)
        ∙ ap (λ (cs : List (List ℤ)). cs ++ (C ∷ [])) (left_clauses R e)
        ∙ sym (last_full (clauses_of w) C (clauses_length 0 w.window.clauses w ∙ e))

    room : (w.window.clauses ≡ 64 → ⊥) → clauses_of (put C w) ≡ last_of 64 (clauses_of w ++ (C ∷ []))
    room n =
        let lt : w.window.clauses < 64 = omega (arith, R.few, n) in
        put_clauses R N lt ∙ sym (last_all (clauses_of w) C (omega (arith, clauses_length 0 w.window.clauses w, lt)))

-- the youngest clause is the one that was kept
pub keep_youngest : {v : ℕ} {C : List ℤ} {w : Places} → WindowRule v w → Newcomer v C → youngest (keep C w) ≡ C
keep_youngest {v} {C} {w} R N = keep_cases C w (λ (x : Places). youngest x ≡ C) (λ e. last_of_lem (left_ruled R e) (left_few w e)) (λ n. last_of_lem R (omega (arith, R.few, n)))
  where
    last_of_lem : {u : Places} → WindowRule v u → u.window.clauses < 64 → youngest (put C u) ≡ C
    last_of_lem {u} S lt = ap (λ (n : ℕ). clause_of (put C u) (n - 1)) (put_counted C u) ∙ ap (clause_of (put C u)) (let q : suc u.window.clauses - 1 ≡ u.window.clauses = omega arith in q) ∙ put_last S N lt

-- a load empties the window, and the empty window keeps the rule for any number of variables
pub emptied_clauses : (w : Places) → clauses_of (emptied w) ≡ []
unfolding emptied clauses_from
emptied_clauses w = refl

pub emptied_ruled : (v : ℕ) (w : Places) → LongWindow w → WindowRule v (emptied w)
unfolding emptied total_of
emptied_ruled v w L = record {
  long = record {
    sizes = omega (arith, length-append (replicate 64 0) (drop 64 w.sizes), length-replicate {A = ℕ} 64 0);
    learnt = omega (arith, length-append (replicate 4096 (pos 0)) (drop 4096 w.learnt), length-replicate {A = ℤ} 4096 (pos 0));
  };
  few = omega arith;
  each = λ k h. absurd (omega (arith, h));
  total = refl;
}
