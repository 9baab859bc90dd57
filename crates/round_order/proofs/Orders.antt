-- The order of a round, as it is written: the slots from the turn on, then those before it. Passing.antt shows that Stamp takes it. Assumes nothing.
use Prim.Native.Nat.{ℕ, zero, suc, ◌+◌, ◌*◌, ◌-◌, ◌%◌, ◌≤◌, ◌<◌}
use native.Mathlib.Nat.{mod-lt}
use native.Mathlib.Numerals.{add-one}
use native.Mathlib.Omega.{arith}
use mathlib.Core.Path.{◌≡◌, refl, sym, ap, ap₂, ◌∙◌}
use mathlib.Core.List.{List, [], ◌∷◌, ◌++◌, append-nil, map}
use lib.ListN.{length, take, drop, set, length-append, length-drop, length-set, drop_of_length-le}
use lib.Seq.{take_all, take_at, drop_at, take-suc-set}
use lib.IntN.{ℤ}
use Rattle.base.specs.Lists.{numbers, turned}
use Rattle.literal.specs.Literals.{lit_at}
use Rattle.round_order.specs.Order.{turn_by, order_of}

-- the literals of n slots from slot k on
abbrev pub listed : ℕ → ℕ → List ℤ
listed k n = map lit_at (numbers k n)

pub listed_length : (k n : ℕ) → length (listed k n) ≡ n
unfolding numbers
listed_length k zero = refl
listed_length k (suc n) = ap suc (listed_length (suc k) n)

listed_more : (k n : ℕ) → listed k (suc n) ≡ listed k n ++ (lit_at (k + n) ∷ [])
unfolding numbers
listed_more k zero = ap (λ (s : ℕ). lit_at s ∷ []) (let q : k ≡ k + 0 = omega arith in q)
listed_more k (suc n) = ap (λ (l : List ℤ). lit_at k ∷ l) (listed_more (suc k) n ∙ ap (λ (s : ℕ). listed (suc k) n ++ (lit_at s ∷ [])) (let q : suc k + n ≡ k + suc n = omega arith in q))

listed_drop : (r k n : ℕ) → r ≤ n → drop r (listed k n) ≡ listed (k + r) (n - r)
unfolding numbers
listed_drop zero k n le = ap (λ (s : ℕ). listed s n) (let q : k ≡ k + 0 = omega arith in q) ∙ ap (listed (k + 0)) (let q : n ≡ n - 0 = omega arith in q)
listed_drop (suc r) k zero le = absurd (omega arith)
listed_drop (suc r) k (suc n) le = listed_drop r (suc k) n (omega arith) ∙ ap (λ (s : ℕ). listed s (n - r)) (let q : suc k + r ≡ k + suc r = omega arith in q) ∙ ap (listed (k + suc r)) (let q : n - r ≡ suc n - suc r = omega arith in q)

listed_take : (r k n : ℕ) → r ≤ n → take r (listed k n) ≡ listed k r
unfolding numbers
listed_take zero k n le = refl
listed_take (suc r) k zero le = absurd (omega arith)
listed_take (suc r) k (suc n) le = ap (λ (l : List ℤ). lit_at k ∷ l) (listed_take r (suc k) n (omega arith))

-- ---- the loop that writes slots

pub record Listing (slot : ℕ) (before part : List ℤ) (i : ℕ) : Type 0 where
  pub same : length part ≡ length before
  pub within : i ≤ length before
  pub done : take i part ≡ listed slot i

pub listing_none : (slot : ℕ) (before : List ℤ) → Listing slot before before 0
unfolding numbers
listing_none slot before = record { same = refl; within = omega arith; done = refl }

module _ {slot : ℕ} {before part : List ℤ} {i : ℕ} (L : Listing slot before part i) where
  pub listing_more : i < length part → (l : ℤ) → l ≡ lit_at (slot + i) → Listing slot before (set part i l) (i + 1)
  listing_more lt l e = record {
    same = simp length-set L.same;
    within = omega (arith, L.same, lt);
    done =
        ap (λ (n : ℕ). take n (set part i l)) (add-one i) ∙ take-suc-set part i l lt ∙ ap (λ (f : List ℤ). f ++ (l ∷ [])) L.done ∙ ap (λ (x : ℤ). listed slot i ++ (x ∷ [])) e
        ∙ sym (listed_more slot i) ∙ ap (listed slot) (sym (add-one i));
  }

-- ---- the two parts

turn_is : (k m : ℕ) → 0 < m → turn_by k m ≡ k % m
turn_is k zero lt = absurd (omega arith)
turn_is k (suc m) lt = refl

pub turn_le : (k m : ℕ) → turn_by k m ≤ m
turn_le k zero = omega arith
turn_le k (suc m) = omega (arith, mod-lt k (let z : 0 < suc m = omega arith in z))

-- the order as two lists of slots
pub order_is : (v k : ℕ) → order_of v k ≡ listed (turn_by k (2 * v)) (2 * v - turn_by k (2 * v)) ++ listed 0 (turn_by k (2 * v))
unfolding order_of turned
order_is v k = let r = turn_by k (2 * v) in let le = turn_le k (2 * v) in
    ap (λ (l : List ℤ). l ++ take r (listed 0 (2 * v))) (listed_drop r 0 (2 * v) le ∙ ap (λ (s : ℕ). listed s (2 * v - r)) (let q : 0 + r ≡ r = omega arith in q))
    ∙ ap (λ (l : List ℤ). listed r (2 * v - r) ++ l) (listed_take r 0 (2 * v) le)

pub order_length : (v k : ℕ) → length (order_of v k) ≡ 2 * v
order_length v k = ap length (order_is v k) ∙ length-append (listed (turn_by k (2 * v)) (2 * v - turn_by k (2 * v))) (listed 0 (turn_by k (2 * v)))
    ∙ ap₂ (λ (a b : ℕ). a + b) (listed_length (turn_by k (2 * v)) (2 * v - turn_by k (2 * v))) (listed_length 0 (turn_by k (2 * v))) ∙ (let q : 2 * v - turn_by k (2 * v) + turn_by k (2 * v) ≡ 2 * v = omega (arith, turn_le k (2 * v)) in q)

pub order_none : (v k : ℕ) (l : List ℤ) → length l ≡ 2 * v → length l ≡ 0 → l ≡ order_of v k
unfolding numbers
order_none v k [] e z = sym (order_is v k ∙ ap (λ (m : ℕ). listed (turn_by k m) (m - turn_by k m) ++ listed 0 (turn_by k m)) (let q : 2 * v ≡ 0 = omega (arith, e) in q))
order_none v k (x ∷ l) e z = absurd (omega (arith, z))

-- a list whose front and rest were written, in turn
both_parts : (l a b : List ℤ) (m : ℕ) → m ≤ length l → length a ≡ m → take m (a ++ drop m l) ++ (b ++ drop (length (a ++ drop m l) - m) (drop m (a ++ drop m l))) ≡ a ++ b
both_parts l a b m le e =
    ap (λ (x : List ℤ). x ++ (b ++ drop (length (a ++ drop m l) - m) (drop m (a ++ drop m l)))) (take_at a (drop m l) m e)
    ∙ ap (λ (x : List ℤ). a ++ (b ++ drop (length (a ++ drop m l) - m) x)) (drop_at a (drop m l) m e)
    ∙ ap (λ (x : List ℤ). a ++ (b ++ x)) (drop_of_length-le (drop m l) (let z : length (drop m l) ≤ length (a ++ drop m l) - m = simp (length-append, length-drop) (omega arith) in z))
    ∙ ap (λ (x : List ℤ). a ++ x) (append-nil b)

-- what is lent of it
pub rest_length : (l a : List ℤ) (m : ℕ) → m ≤ length l → length a ≡ m → length (take (length (a ++ drop m l) - m) (drop m (a ++ drop m l))) ≡ length l - m
rest_length l a m le e =
    ap (λ (x : List ℤ). length (take (length (a ++ drop m l) - m) x)) (drop_at a (drop m l) m e)
    ∙ ap length (take_all (length (a ++ drop m l) - m) (drop m l) (simp (length-append, length-drop) (omega arith))) ∙ length-drop m l

pub order_written : (v k : ℕ) (l a b : List ℤ) → length l ≡ 2 * v → (length l ≡ 0 → ⊥) → (r : ℕ) → r ≡ k % length l → (m m' : ℕ) → m ≡ length l - r → m' ≡ r → a ≡ listed r m → b ≡ listed 0 m'
    → take (length l - r) (a ++ drop (length l - r) l) ++ (b ++ drop (length (a ++ drop (length l - r) l) - (length l - r)) (drop (length l - r) (a ++ drop (length l - r) l))) ≡ order_of v k
order_written v k l a b e some r is m m' em em' ea eb =
    let le : r ≤ length l = omega (arith, is, mod-lt k (let z : 0 < length l = omega arith in z)) in
    let t : turn_by k (2 * v) ≡ r = ap (turn_by k) (sym e) ∙ turn_is k (length l) (omega arith) ∙ sym is in
    both_parts l a b (length l - r) (omega arith) (ap length ea ∙ listed_length r m ∙ em)
    ∙ ap (λ (x : List ℤ). x ++ b) (ea ∙ ap (listed r) em) ∙ ap (λ (x : List ℤ). listed r (length l - r) ++ x) (eb ∙ ap (listed 0) em')
    ∙ ap (λ (n : ℕ). listed r (n - r) ++ listed 0 r) e
    ∙ ap (λ (x : ℕ). listed x (2 * v - x) ++ listed 0 x) (sym t) ∙ sym (order_is v k)
