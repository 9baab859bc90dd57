-- Laws of the first wrong byte: there is one at most, and it is found by reading on, byte by byte, with what may follow. Assumes nothing.
use Prim.Native.Nat.{ℕ, suc, ◌≤◌, ◌<◌}
use native.Mathlib.Omega.{arith}
use mathlib.Core.Path.{◌≡◌, sym, ap, ◌∙◌, subst}
use mathlib.Core.List.{List, [], ◌∷◌, ◌++◌, append_assoc}
use lib.ListN.{length, take, drop, take-append-drop}
use lib.Seq.{take-take, take_all}
use Rattle.violations.specs.Grammar.{Begins, FirstWrong, at_byte, cut_off}

-- ---- one at most
module _ (L : List ℕ → Type 0) (text : List ℕ) where
  -- a right text's fronts begin it
  right_begins : (i : ℕ) → L text → Begins L (take i text)
  right_begins i h = (drop i text, rw (take-append-drop i text) h)

  -- what begins a right text begins it up to any place
  begins_less : (i j : ℕ) → i ≤ j → Begins L (take j text) → Begins L (take i text)
  begins_less i j h b =
      let q : take i (take j text) ++ drop i (take j text) ≡ take j text = take-append-drop i (take j text) in
      let e : take i (take j text) ≡ take i text = take-take i j text h in
      (drop i (take j text) ++ b.0, subst L (ap (λ (s : List ℕ). s ++ b.0) (sym q) ∙ append_assoc (take i (take j text)) (drop i (take j text)) b.0 ∙ ap (λ (s : List ℕ). s ++ (drop i (take j text) ++ b.0)) e) b.1)

  all_begins : (i : ℕ) → i ≤ length text → Begins L text → Begins L (take i text)
  all_begins i h b = begins_less i (length text) h (subst (Begins L) (sym (take_all (length text) text (omega arith))) b)

  pub right_or_wrong : L text → (k : ℕ) → FirstWrong L text k → ⊥
  right_or_wrong h k (at_byte i lt b n) = n (right_begins (suc i) h)
  right_or_wrong h k (cut_off b n) = n h

  pub wrong_once : (i j : ℕ) → FirstWrong L text i → FirstWrong L text j → i ≤ j
  wrong_once i j (at_byte i' lt b n) (at_byte j' lt' b' n') =
      let h : (j < i → ⊥) = λ lt''. n' (begins_less (suc j) i lt'' b) in
      omega arith
  wrong_once i j (at_byte i' lt b n) (cut_off b' n') = omega arith
  wrong_once i j (cut_off b n) (at_byte j' lt' b' n') = absurd (n' (all_begins (suc j') (omega arith) b))
  wrong_once i j (cut_off b n) (cut_off b' n') = omega arith

-- ---- one byte further
module _ (L M : List ℕ → Type 0) (b : ℕ) (into : (t : List ℕ) → M t → L (b ∷ t)) (back : (t : List ℕ) → L (b ∷ t) → M t) where
  pub wrong_next : (s : List ℕ) (k : ℕ) → FirstWrong M s k → FirstWrong L (b ∷ s) (suc k)
  wrong_next s k (at_byte i lt x n) = at_byte (suc i) (omega arith) (x.0, into _ x.1) (λ y. n (y.0, back _ y.1))
  wrong_next s k (cut_off x n) = cut_off (x.0, into _ x.1) (λ y. n (back s y))

-- ---- the same byte, with less that may follow
module _ (L M : List ℕ → Type 0) (into : (t : List ℕ) → M t → L t) where
  pub wrong_here : (b : ℕ) (s : List ℕ) → ((t : List ℕ) → L (b ∷ t) → M (b ∷ t)) → (k : ℕ) → FirstWrong M (b ∷ s) k → FirstWrong L (b ∷ s) k
  wrong_here b s back k (at_byte i lt x n) = at_byte i lt (x.0, into _ x.1) (λ y. n (y.0, back _ y.1))
  wrong_here b s back k (cut_off x n) = cut_off (x.0, into _ x.1) (λ y. n (back s y))

  pub wrong_end : (L [] → M []) → (k : ℕ) → FirstWrong M [] k → FirstWrong L [] k
  wrong_end back k (at_byte i lt x n) = absurd (omega arith)
  wrong_end back k (cut_off x n) = cut_off (x.0, into _ x.1) (λ y. n (back y))

  pub wrong_same : ((t : List ℕ) → L t → M t) → (s : List ℕ) (k : ℕ) → FirstWrong M s k → FirstWrong L s k
  wrong_same back s k (at_byte i lt x n) = at_byte i lt (x.0, into _ x.1) (λ y. n (y.0, back _ y.1))
  wrong_same back s k (cut_off x n) = cut_off (x.0, into _ x.1) (λ y. n (back s y))

-- ---- wrong at once
pub wrong_first : (L : List ℕ → Type 0) (b : ℕ) (s : List ℕ) → (t : List ℕ) → L t → ((u : List ℕ) → L (b ∷ u) → ⊥) → FirstWrong L (b ∷ s) 0
wrong_first L b s t h n = at_byte 0 (omega arith) (t, h) (λ y. n y.0 y.1)

pub wrong_nothing : (L : List ℕ → Type 0) (t : List ℕ) → L t → (L [] → ⊥) → FirstWrong L [] 0
wrong_nothing L t h n = cut_off (t, h) n
