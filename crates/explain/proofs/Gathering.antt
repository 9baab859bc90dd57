-- The loop that puts the ends of the chains into a slice, for each literal that is left out. Assumes nothing.
use Prim.Native.Nat.{ℕ, suc, ◌+◌, ◌*◌, ◌≤◌, ◌<◌}
use native.Mathlib.Numerals.{add-one}
use native.Mathlib.Omega.{arith}
use mathlib.Core.Path.{◌≡◌, refl, sym, ap, ◌∙◌}
use mathlib.Core.Bool.{true, false}
use mathlib.Core.List.{List, [], ◌∷◌, ◌++◌, map, append-nil, append_assoc}
use lib.ListN.{length, get_or, take, drop, set, length-set, length-append, length-map, drop_of_length-le}
use lib.Seq.{drop-cons, drop-drop, take-suc-set, append_snoc}
use lib.IntN.{ℤ, pos}
use Rattle.chains.specs.declared.Ends.{Ends}
use Rattle.chains.specs.Chains.{flat}
use Rattle.explain.specs.Reasons.{begins, left_out}
use Rattle.explain.specs.Asking.{Listed}
use Rattle.explain.proofs.Leaving.{left_out_stays, left_out_goes}

-- ---- one pair more in a slice

pub put_pair : (xs : List ℤ) (n : ℕ) (a b : ℤ) → 2 * n + 1 < length xs → take (2 * (n + 1)) (set (set xs (2 * n) a) (2 * n + 1) b) ≡ take (2 * n) xs ++ (a ∷ b ∷ [])
put_pair xs n a b lt =
    let e : 2 * (n + 1) ≡ suc (2 * n + 1) = omega arith in
    ap (λ (k : ℕ). take k (set (set xs (2 * n) a) (2 * n + 1) b)) e
    ∙ take-suc-set (set xs (2 * n) a) (2 * n + 1) b (omega (arith, length-set xs (2 * n) a, lt))
    ∙ ap (λ (k : ℕ). take k (set xs (2 * n) a) ++ (b ∷ [])) (add-one (2 * n))
    ∙ ap (λ (l : List ℤ). l ++ (b ∷ [])) (take-suc-set xs (2 * n) a (omega (arith, lt)))
    ∙ append_assoc (take (2 * n) xs) (a ∷ []) (b ∷ [])

flat_more : (f : ℤ → Ends) (ls : List ℤ) (l : ℤ) → flat (map f (ls ++ (l ∷ []))) ≡ flat (map f ls) ++ ((f l).top ∷ (f l).bottom ∷ [])
flat_more f [] l = refl
flat_more f (x ∷ ls) l = ap (λ (zs : List ℤ). (f x).top ∷ (f x).bottom ∷ zs) (flat_more f ls l)

-- ---- the loop: of the first i literals of C those in `out` are not among the first j of D, and their n pairs stand in xs

pub record Gathering (es : List ℤ → ℤ → Ends) (C D xs : List ℤ) (n j i : ℕ) : Type 0 where
  pub within : i ≤ length C
  pub few : n ≤ i
  pub passed : j ≤ i
  pub room : length xs ≡ 2048
  pub out : List ℤ
  pub number : n ≡ length out
  pub split : left_out C D ≡ out ++ left_out (drop i C) (drop j D)
  pub pairs : (links : List ℤ) → take (2 * n) xs ≡ flat (map (es links) out)

module _ {es : List ℤ → ℤ → Ends} {C D xs : List ℤ} {n j i : ℕ} (G : Gathering es C D xs n j i) where
  module _ (lt : i < length C) where
    pub gathering_stays : begins (get_or C i (pos 0)) (drop j D) ≡ true → Gathering es C D xs n (j + 1) (i + 1)
    gathering_stays e = record {
      within = omega arith;
      few = omega (arith, G.few);
      passed = omega (arith, G.passed);
      room = G.room;
      out = G.out;
      number = G.number;
      split =
          G.split
          ∙ ap (λ (ls : List ℤ). G.out ++ ls)
          (ap (λ (ls : List ℤ). left_out ls (drop j D)) (drop-cons C i (pos 0) lt) ∙ left_out_stays (get_or C i (pos 0)) (drop (suc i) C) (drop j D) e ∙ (λ z. left_out (drop (sym (add-one i) z) C) (drop-drop 1 j D z)));
      pairs = G.pairs;
    }

    pub gathering_goes : length C ≤ 1024 → begins (get_or C i (pos 0)) (drop j D) ≡ false → (e : Ends) → ((links : List ℤ) → e ≡ es links (get_or C i (pos 0)))
        → Gathering es C D (set (set xs (2 * n) e.top) (2 * n + 1) e.bottom) (n + 1) j (i + 1)
    gathering_goes small b e is = record {
      within = omega arith;
      few = omega (arith, G.few);
      passed = omega (arith, G.passed);
      room = simp length-set G.room;
      out = G.out ++ (get_or C i (pos 0) ∷ []);
      number = omega (arith, G.number, length-append G.out (get_or C i (pos 0) ∷ []));
      split =
          G.split
          ∙ ap (λ (ls : List ℤ). G.out ++ ls)
          (ap (λ (ls : List ℤ). left_out ls (drop j D)) (drop-cons C i (pos 0) lt) ∙ left_out_goes (get_or C i (pos 0)) (drop (suc i) C) (drop j D) b ∙ ap (λ (k : ℕ). get_or C i (pos 0) ∷ left_out (drop k C) (drop j D)) (sym (add-one i)))
          ∙ sym (append_snoc G.out (get_or C i (pos 0)) (left_out (drop (i + 1) C) (drop j D)));
      pairs = λ links.
          put_pair xs n e.top e.bottom (omega (arith, G.few, G.room, lt, small))
          ∙ (λ z. G.pairs links z ++ ((is links z).top ∷ (is links z).bottom ∷ []))
          ∙ sym (flat_more (es links) G.out (get_or C i (pos 0)));
    }

  pub gathering_done : length C ≤ i → (links : List ℤ) → Listed (map (es links) (left_out C D)) n xs
  unfolding left_out
  gathering_done h links =
      let all : left_out C D ≡ G.out = G.split ∙ ap (λ (ls : List ℤ). G.out ++ left_out ls (drop j D)) (drop_of_length-le C h) ∙ append-nil G.out in
      record {
        number = omega (arith, G.number, ap length all, length-map (left_out C D) (es links));
        pairs = G.pairs links ∙ ap (λ (ls : List ℤ). flat (map (es links) ls)) (sym all);
      }
