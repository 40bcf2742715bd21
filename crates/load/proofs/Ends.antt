-- Words that say of each node how many stand below it: where the subtrees end, and the words of a tree that is loaded.
use mathlib.Core.Path.{◌≡◌, refl, sym, ap, ◌∙◌}
use mathlib.Core.Bool.{Bool, true, false}
use mathlib.Core.List.{List}
use Prim.Native.Nat.{ℕ, zero, suc, ◌+◌, ◌-◌, ◌≤◌, ◌<◌}
use native.Mathlib.Omega.{arith}
use borrow.Author.Tests.{eqb-true, eqb-false, ltb-true, ltb-false}
use lib.Dec.{eqb, ltb}
use lib.ListN.{length, get_or, set, length-set}
use lib.Seq.{get_or-set_same, get_or-set_other, ext_get_or}
use Rattle.work.specs.Word.{below_of}
use Rattle.refine.specs.Words.{pack}
use Rattle.load.specs.Load.{load_words}
use Rattle.load.specs.Scans.{with_below}

ends_from : ℕ → List ℕ → List ℕ
ends_from q List.[] = List.[]
ends_from q (List.◌∷◌ w ws) = List.◌∷◌ (q + 1 + below_of w) (ends_from (q + 1) ws)

-- where the subtree of each word ends
unfoldable pub ends_of : List ℕ → List ℕ
unfolding ends_from
ends_of ws = ends_from 0 ws

ends_long_from : (ws : List ℕ) (q : ℕ) → length (ends_from q ws) ≡ length ws
unfolding ends_from
ends_long_from List.[] q = refl
ends_long_from (List.◌∷◌ w ws) q = ap (λ (n : ℕ). suc n) (ends_long_from ws (q + 1))

pub ends_long : (ws : List ℕ) → length (ends_of ws) ≡ length ws
unfolding ends_of
ends_long ws = ends_long_from ws 0

end_from : (ws : List ℕ) (q i : ℕ) → i < length ws → get_or (ends_from q ws) i 0 ≡ q + i + 1 + below_of (get_or ws i 0)
unfolding ends_from
end_from List.[] q i h = absurd (omega arith)
end_from (List.◌∷◌ w ws) q zero h = omega arith
end_from (List.◌∷◌ w ws) q (suc i) h = omega (arith, end_from ws (q + 1) i (omega arith))

pub end_at : (ws : List ℕ) (i : ℕ) → i < length ws → get_or (ends_of ws) i 0 ≡ i + 1 + below_of (get_or ws i 0)
unfolding ends_of
end_at ws i h = omega (arith, end_from ws 0 i h)

set_from : (ws : List ℕ) (q i w : ℕ) → ends_from q (set ws i w) ≡ set (ends_from q ws) i (q + i + 1 + below_of w)
unfolding ends_from
set_from List.[] q i w = refl
set_from (List.◌∷◌ x ws) q zero w = let e : q + 1 + below_of w ≡ q + 0 + 1 + below_of w = omega arith in ap (λ (n : ℕ). List.◌∷◌ n (ends_from (q + 1) ws)) e
set_from (List.◌∷◌ x ws) q (suc i) w =
    let e : q + 1 + i + 1 + below_of w ≡ q + suc i + 1 + below_of w = omega arith in
    ap (λ (l : List ℕ). List.◌∷◌ (q + 1 + below_of x) l) (set_from ws (q + 1) i w ∙ ap (λ (n : ℕ). set (ends_from (q + 1) ws) i n) e)

pub set_end : (ws : List ℕ) (i w end : ℕ) → i + 1 + below_of w ≡ end → ends_of (set ws i w) ≡ set (ends_of ws) i end
unfolding ends_of
set_end ws i w end e = set_from ws 0 i w ∙ ap (λ (n : ℕ). set (ends_from 0 ws) i n) (omega (arith, e))

-- ---- a word that is packed, and one of which it becomes known how many stand below
pub below_none : (k p m : ℕ) → below_of (pack 0 k p m false 0) ≡ 0
unfolding pack below_of
below_none k p m = omega arith

pub below_with : (w b : ℕ) → b < 256 → below_of (with_below w b) ≡ b
unfolding below_of
below_with w b h = omega arith

pub pack_with : (x k p m b : ℕ) → with_below (pack x k p m false 0) b ≡ pack b k p m false 0
unfolding pack
pack_with x k p m b = omega arith

module _ (kinds places marks : List ℕ) where
  -- the word at i is that of its node, with so many below it as it says
  abbrev pub Packed : List ℕ → ℕ → Type 0
  Packed ws i = get_or ws i 0 ≡ pack (below_of (get_or ws i 0)) (get_or kinds i 0) (get_or places i 0) (get_or marks i 0) false 0

  pub packed_new : (ws : List ℕ) (i w : ℕ) → i < length ws → w ≡ pack 0 (get_or kinds i 0) (get_or places i 0) (get_or marks i 0) false 0 → Packed (set ws i w) i
  packed_new ws i w h e = rw (get_or-set_same ws i w 0 h, e, below_none (get_or kinds i 0) (get_or places i 0) (get_or marks i 0))

  pub packed_with : (ws : List ℕ) (i w b : ℕ) → i < length ws → b < 256 → Packed ws i → w ≡ with_below (get_or ws i 0) b → Packed (set ws i w) i
  packed_with ws i w b h low is e =
      let new : w ≡ pack b (get_or kinds i 0) (get_or places i 0) (get_or marks i 0) false 0 =
      e ∙ ap (λ (x : ℕ). with_below x b) is ∙ pack_with (below_of (get_or ws i 0)) (get_or kinds i 0) (get_or places i 0) (get_or marks i 0) b in
      let below : below_of w ≡ b = ap below_of e ∙ below_with (get_or ws i 0) b low in
      rw (get_or-set_same ws i w 0 h, below) new

  pub packed_other : (ws : List ℕ) (i j w : ℕ) → (j ≡ i → ⊥) → Packed ws j → Packed (set ws i w) j
  packed_other ws i j w h is = rw (get_or-set_other ws i j w 0 h) is

  -- ---- the words of n nodes
  module _ (ends : List ℕ) where
    abbrev word_for : ℕ → ℕ
    word_for q = pack (get_or ends q 0 - (q + 1)) (get_or kinds q 0) (get_or places q 0) (get_or marks q 0) false 0

    load_long : (n q : ℕ) (ws : List ℕ) → length (load_words false kinds ends places marks q n ws) ≡ length ws
    unfolding load_words
    load_long zero q ws = refl
    load_long (suc n) q ws = load_long n (q + 1) (set ws q (word_for q)) ∙ length-set ws q (word_for q)

    load_before : (n q : ℕ) (ws : List ℕ) (i : ℕ) → i < q → get_or (load_words false kinds ends places marks q n ws) i 0 ≡ get_or ws i 0
    unfolding load_words
    load_before zero q ws i h = refl
    load_before (suc n) q ws i h = load_before n (q + 1) (set ws q (word_for q)) i (omega arith) ∙ get_or-set_other ws q i (word_for q) 0 (omega arith)

    load_behind : (n q : ℕ) (ws : List ℕ) (i : ℕ) → q + n ≤ i → get_or (load_words false kinds ends places marks q n ws) i 0 ≡ get_or ws i 0
    unfolding load_words
    load_behind zero q ws i h = refl
    load_behind (suc n) q ws i h = load_behind n (q + 1) (set ws q (word_for q)) i (omega arith) ∙ get_or-set_other ws q i (word_for q) 0 (omega arith)

    load_at : (n q : ℕ) (ws : List ℕ) (i : ℕ) → q ≤ i → i < q + n → i < length ws → get_or (load_words false kinds ends places marks q n ws) i 0 ≡ word_for i
    unfolding load_words
    load_at zero q ws i a b h = absurd (omega arith)
    load_at (suc n) q ws i a b h =
        let then = set ws q (word_for q) in
        here_or_on n q ws i (omega arith) (λ f. load_at n (q + 1) then i (omega (arith, f)) (omega arith) (omega (arith, length-set ws q (word_for q)))) (eqb i q) refl
      where
        here_or_on : (n q : ℕ) (ws : List ℕ) (i : ℕ) → i < length ws
            → ((i ≡ q → ⊥) → get_or (load_words false kinds ends places marks (q + 1) n (set ws q (word_for q))) i 0 ≡ word_for i)
            → (x : Bool) → eqb i q ≡ x
            → get_or (load_words false kinds ends places marks (q + 1) n (set ws q (word_for q))) i 0 ≡ word_for i
        here_or_on n q ws i h on true e =
            let z : i ≡ q = eqb-true i q e in
            rw z (load_before n (q + 1) (set ws q (word_for q)) q (omega arith) ∙ get_or-set_same ws q (word_for q) 0 (omega arith))
        here_or_on n q ws i h on false e = on (eqb-false i q e)

  -- words that say it all are the words that are loaded
  pub packed_loads : (n : ℕ) (ws₀ ws : List ℕ)
      → n ≤ length ws
      → length ws ≡ length ws₀
      → ((i : ℕ) → i < n → Packed ws i)
      → ((i : ℕ) → n ≤ i → get_or ws i 0 ≡ get_or ws₀ i 0)
      → ws ≡ load_words false kinds (ends_of ws) places marks 0 n ws₀
  packed_loads n ws₀ ws long same packed stays = ext_get_or 0 ws _ (same ∙ sym (load_long (ends_of ws) n 0 ws₀)) each
    where
      each : (i : ℕ) → i < length ws → get_or ws i 0 ≡ get_or (load_words false kinds (ends_of ws) places marks 0 n ws₀) i 0
      each i h = go (ltb i n) refl
        where
          go : (b : Bool) → ltb i n ≡ b → get_or ws i 0 ≡ get_or (load_words false kinds (ends_of ws) places marks 0 n ws₀) i 0
          go true e =
              let inside = ltb-true i n e in
              let below : get_or (ends_of ws) i 0 - (i + 1) ≡ below_of (get_or ws i 0) = omega (arith, end_at ws i h) in
              packed i inside ∙ ap (λ (x : ℕ). pack x (get_or kinds i 0) (get_or places i 0) (get_or marks i 0) false 0) (sym below)
              ∙ sym (load_at (ends_of ws) n 0 ws₀ i (omega arith) (omega arith) (omega arith))
          go false e = let outside = ltb-false i n e in stays i outside ∙ sym (load_behind (ends_of ws) n 0 ws₀ i (omega arith))
