-- Trees of elements: induction from an element to its parent and to its children, and what stands below an element.
use Rattle.std.proofs.Common.{◌≡◌, ◌<◌, ◌≤◌, ◌+◌, ℕ, zero, suc, List, [], ◌∷◌, length, Option, Some, None, ◌⊎◌, inl, inr, refl, ap, sym, subst, ◌∙◌, arith}
use Rattle.std.specs.Prelude.{max, ◌==◌, true, map, fold}
use Rattle.std.proofs.lemmas.Bool.{or_left, or_right, eq-eqb}
use Rattle.layout_model.specs.Nodes.{Node, path_above, path_up, path_of, ancestors_of, depth_of, is_among, is_in_path, last_of, top_of}
use Rattle.layout_model.proofs.Paths.{path_child, path_top, path_self, depth_child, depth_least}
use Rattle.page_model.specs.World.{Tree}
use Rattle.page_model.specs.Lookups.{element_at, is_listed}
use Rattle.page_model.specs.Documents.{nodes_of, is_number, is_inclusive_ancestor, root_of, order_down, inclusive_descendants, levels_down, levels_of}
use Rattle.page_documents.specs.Frames.{MakeTrees}
use Rattle.page_documents.proofs.Lists.{Among, among, listed, Comes, among_flat, flat_among, number_is, its_number}

-- how deep an element stands
abbrev pub depth : Tree → ℕ → ℕ
depth tree n = depth_of (nodes_of tree) n

fold_least : (least : ℕ) (xs : List ℕ) → least ≤ fold max least xs
fold_least least [] = omega arith
fold_least least (x ∷ xs) = let more : max least x ≤ fold max (max least x) xs = fold_least (max least x) xs in omega arith

-- each is at most the greatest
fold_each : (f : ℕ → ℕ) (x : ℕ) (xs : List ℕ) (least : ℕ) → Among x xs → f x ≤ fold max least (map f xs)
fold_each f x [] least is = absurd is
fold_each f x (y ∷ xs) least (inl here) =
    let more : max least (f y) ≤ fold max (max least (f y)) (map f xs) = fold_least (max least (f y)) (map f xs) in
    let same : f x ≡ f y = ap f (sym here) in
    omega arith
fold_each f x (y ∷ xs) least (inr there) = fold_each f x xs (max least (f y)) there

abbrev pub IsBelow : Tree → ℕ → ℕ → Type 0
IsBelow tree n m = Among m (inclusive_descendants tree n)

module _ (tree : Tree) (trees : MakeTrees tree) where
  child_of : (c p : ℕ) → Among c (element_at tree p).children → (element_at tree c).parent ≡ Some p
  child_of c p is = number_is ((element_at tree c).parent) p (sym (trees.children p c) ∙ listed c ((element_at tree p).children) is)

  pub among_children : (c p : ℕ) → (element_at tree c).parent ≡ Some p → Among c (element_at tree p).children
  among_children c p is = among c ((element_at tree p).children) (trees.children p c ∙ its_number ((element_at tree c).parent) p is)

  pub deeper : (c p : ℕ) → (element_at tree c).parent ≡ Some p → depth tree c ≡ depth tree p + 1
  deeper c p is = depth_child (nodes_of tree) c p is (trees.shallow p)

  pub root_child : (c p : ℕ) → (element_at tree c).parent ≡ Some p → root_of tree c ≡ root_of tree p
  unfolding root_of top_of last_of
  root_child c p is =
      ap (last_of c) (path_child (nodes_of tree) c p is (trees.shallow p))
      ∙ ap (last_of c) (path_self (nodes_of tree) p (trees.shallow p))
      ∙ sym (ap (last_of p) (path_self (nodes_of tree) p (trees.shallow p)))

  pub root_top : (n : ℕ) → (element_at tree n).parent ≡ None → root_of tree n ≡ n
  unfolding root_of top_of last_of
  root_top n is = ap (last_of n) (path_top (nodes_of tree) n is)

  -- what holds of each element without a parent, and of a child where it holds of its parent, holds of all
  module _ (P : ℕ → Type 0) where
    by_parent : (n high : ℕ) → ((n : ℕ) → (element_at tree n).parent ≡ None → P n) → ((n p : ℕ) → (element_at tree n).parent ≡ Some p → P p → P n) →
        ((p : ℕ) → depth tree p ≤ high → P p) → depth tree n ≤ suc high → (found : Option ℕ) → (element_at tree n).parent ≡ found → P n
    by_parent n high top child above low None is = top n is
    by_parent n high top child above low (Some p) is = child n p is (above p (let more : depth tree n ≡ depth tree p + 1 = deeper n p is in omega arith))

    up_to : (high n : ℕ) → ((n : ℕ) → (element_at tree n).parent ≡ None → P n) → ((n p : ℕ) → (element_at tree n).parent ≡ Some p → P p → P n) →
        depth tree n ≤ high → P n
    up_to zero n top child low = absurd (omega (arith, depth_least (nodes_of tree) n))
    up_to (suc high) n top child low =
        by_parent n high top child (λ p less. up_to high p top child less) low ((element_at tree n).parent) refl

    pub from_parents : ((n : ℕ) → (element_at tree n).parent ≡ None → P n) → ((n p : ℕ) → (element_at tree n).parent ≡ Some p → P p → P n) → (n : ℕ) → P n
    from_parents top child n = up_to (depth tree n) n top child (omega arith)

    -- what holds of an element, and of a child where it holds of its parent, holds of all below
    down_from : (high n m : ℕ) → ((c p : ℕ) → (element_at tree c).parent ≡ Some p → P p → P c) → P n → Among m (order_down high tree n) → P m
    unfolding order_down
    down_from zero n m child here is = absurd is
    down_from (suc high) n m child here (inl same) = subst P same here
    down_from (suc high) n m child here (inr below) =
        let kid : Comes m (order_down high tree) (element_at tree n).children = among_flat (order_down high tree) m ((element_at tree n).children) below in
        down_from high (kid.entry) m child (child (kid.entry) n (child_of (kid.entry) n (kid.among)) here) (kid.of)

    pub to_below : (n m : ℕ) → ((c p : ℕ) → (element_at tree c).parent ≡ Some p → P p → P c) → P n → IsBelow tree n m → P m
    unfolding inclusive_descendants
    to_below n m child here is = down_from 65536 n m child here is

  -- an element is below itself, and so is a child of what is below
  pub itself_below : (n : ℕ) → IsBelow tree n n
  unfolding inclusive_descendants
  itself_below n = inl refl

  below_deeper : (high n m : ℕ) → Among m (order_down high tree n) → depth tree n ≤ depth tree m
  below_deeper high n m is =
      down_from (λ k. depth tree n ≤ depth tree k) high n m
      (λ c p up low. let more : depth tree c ≡ depth tree p + 1 = deeper c p up in omega arith) (omega arith) is

  next_level : (high n c p : ℕ) → (element_at tree c).parent ≡ Some p → Among p (order_down high tree n) → Among c (order_down (suc high) tree n)
  unfolding order_down
  next_level zero n c p up is = absurd is
  next_level (suc high) n c p up (inl same) =
      inr (flat_among (order_down (suc high) tree) c c ((element_at tree n).children) (among_children c n (up ∙ ap Some (sym same))) (inl refl))
  next_level (suc high) n c p up (inr below) =
      let kid : Comes p (order_down high tree) (element_at tree n).children = among_flat (order_down high tree) p ((element_at tree n).children) below in
      inr (flat_among (order_down (suc high) tree) c (kid.entry) ((element_at tree n).children) (kid.among) (next_level high (kid.entry) c p up (kid.of)))

  -- as many levels suffice as an element stands deeper
  enough : (few many n m : ℕ) → Among m (order_down many tree n) → depth tree m < depth tree n + few → Among m (order_down few tree n)
  unfolding order_down
  enough few zero n m is less = absurd is
  enough zero (suc many) n m is less = absurd (let low : depth tree n ≤ depth tree m = below_deeper (suc many) n m is in omega arith)
  enough (suc few) (suc many) n m (inl same) less = inl same
  enough (suc few) (suc many) n m (inr below) less =
      let kid : Comes m (order_down many tree) (element_at tree n).children = among_flat (order_down many tree) m ((element_at tree n).children) below in
      let more : depth tree (kid.entry) ≡ depth tree n + 1 = deeper (kid.entry) n (child_of (kid.entry) n (kid.among)) in
      inr (flat_among (order_down few tree) m (kid.entry) ((element_at tree n).children) (kid.among) (enough few many (kid.entry) m (kid.of) (omega arith)))

  pub child_below : (n c p : ℕ) → (element_at tree c).parent ≡ Some p → IsBelow tree n p → IsBelow tree n c
  unfolding inclusive_descendants
  child_below n c p up is =
      enough 65536 65537 n c (next_level 65536 n c p up is)
      (let low : depth tree c ≤ 65536 = trees.shallow c in let least : 1 ≤ depth tree n = depth_least (nodes_of tree) n in omega arith)

  depth_below : (n m : ℕ) → IsBelow tree n m → depth tree n ≤ depth tree m
  unfolding inclusive_descendants
  depth_below n m is = below_deeper 65536 n m is

  levels_deep : (high n m : ℕ) → Among m (order_down high tree n) → depth tree m < depth tree n + levels_down high tree n
  unfolding order_down levels_down
  levels_deep zero n m is = absurd is
  levels_deep (suc high) n m (inl same) = let it : depth tree m ≡ depth tree n = ap (depth tree) (sym same) in omega arith
  levels_deep (suc high) n m (inr below) =
      let kid : Comes m (order_down high tree) (element_at tree n).children = among_flat (order_down high tree) m ((element_at tree n).children) below in
      let more : depth tree (kid.entry) ≡ depth tree n + 1 = deeper (kid.entry) n (child_of (kid.entry) n (kid.among)) in
      let within : depth tree m < depth tree (kid.entry) + levels_down high tree (kid.entry) = levels_deep high (kid.entry) m (kid.of) in
      let most : levels_down high tree (kid.entry) ≤ fold max 0 (map (levels_down high tree) (element_at tree n).children)
      = fold_each (levels_down high tree) (kid.entry) ((element_at tree n).children) 0 (kid.among) in
      omega arith

  -- what stands below an element stands on one of its levels
  pub on_levels : (n m : ℕ) → IsBelow tree n m → depth tree m < depth tree n + levels_of tree n
  unfolding inclusive_descendants levels_of
  on_levels n m is = levels_deep 65536 n m is

-- two trees of elements with parents alike
module _ (at at' : ℕ → Node) where
  above_same : (up up' : ℕ → List ℕ) → ((n : ℕ) → up' n ≡ up n) → (found found' : Option ℕ) → found' ≡ found → path_above up' found' ≡ path_above up found
  above_same up up' each None found' is = ap (path_above up') is
  above_same up up' each (Some p) found' is = ap (path_above up') is ∙ each p

  paths_same : ((n : ℕ) → (at' n).parent ≡ (at n).parent) → (high n : ℕ) → path_up high at' n ≡ path_up high at n
  unfolding path_up
  paths_same same zero n = refl
  paths_same same (suc high) n =
      ap (λ above. n ∷ above) (above_same (path_up high at) (path_up high at') (paths_same same high) ((at n).parent) ((at' n).parent) (same n))

  depth_same : ((n : ℕ) → (at' n).parent ≡ (at n).parent) → (n : ℕ) → depth_of at' n ≡ depth_of at n
  unfolding depth_of path_of
  depth_same same n = ap length (paths_same same 65536 n)

  above_short : (up up' : ℕ → List ℕ) → ((n : ℕ) → length (up' n) ≤ length (up n)) → (found found' : Option ℕ) → (found' ≡ found) ⊎ (found' ≡ None) →
      length (path_above up' found') ≤ length (path_above up found)
  above_short up up' each found found' (inr none) = rw none (omega arith)
  above_short up up' each None found' (inl same) = rw same (omega arith)
  above_short up up' each (Some p) found' (inl same) = rw same (each p)

  paths_short : ((n : ℕ) → ((at' n).parent ≡ (at n).parent) ⊎ ((at' n).parent ≡ None)) → (high n : ℕ) → length (path_up high at' n) ≤ length (path_up high at n)
  unfolding path_up
  paths_short cut zero n = omega arith
  paths_short cut (suc high) n =
      let rest : length (path_above (path_up high at') (at' n).parent) ≤ length (path_above (path_up high at) (at n).parent)
      = above_short (path_up high at) (path_up high at') (paths_short cut high) ((at n).parent) ((at' n).parent) (cut n) in
      omega arith

  -- where parents are taken away nothing stands deeper
  pub depth_short : ((n : ℕ) → ((at' n).parent ≡ (at n).parent) ⊎ ((at' n).parent ≡ None)) → (n : ℕ) → depth_of at' n ≤ depth_of at n
  unfolding depth_of path_of
  depth_short cut n = paths_short cut 65536 n

-- trees of elements with parents and children alike
module _ (before after : Tree) (parents : (n : ℕ) → (element_at after n).parent ≡ (element_at before n).parent)
    (children : (n : ℕ) → (element_at after n).children ≡ (element_at before n).children) where
  pub trees_same : MakeTrees before → MakeTrees after
  trees_same trees = record {
    children = λ p n. ap (λ xs. is_listed n xs) (children p) ∙ trees.children p n ∙ ap (λ o. is_number o p) (sym (parents n));
    shallow = λ n. rw (depth_same (nodes_of before) (nodes_of after) parents n) (trees.shallow n);
  }

pub depth_top : (tree : Tree) (n : ℕ) → (element_at tree n).parent ≡ None → depth tree n ≡ 1
unfolding depth_of
depth_top tree n up = ap length (path_top (nodes_of tree) n up)

module _ (tree : Tree) (trees : MakeTrees tree) where
  -- what is below an element is it or a child of what is
  pub record Under (n m : ℕ) : Type 0 where
    pub below : IsBelow tree n m
    pub by : (m ≡ n) ⊎ ((p : ℕ) × ((element_at tree m).parent ≡ Some p) × IsBelow tree n p)

  pub under : (n m : ℕ) → IsBelow tree n m → Under n m
  under n m is =
      to_below tree trees (λ k. Under n k) n m
      (λ c p up it. record { below = child_below tree trees n c p up (it.below); by = inr (p, up, it.below) })
      (record { below = itself_below tree trees n; by = inl refl }) is

  -- an element isn't below its child
  pub above_child : (n p : ℕ) → (element_at tree n).parent ≡ Some p → IsBelow tree n p → ⊥
  above_child n p up is =
      let more : depth tree n ≡ depth tree p + 1 = deeper tree trees n p up in
      let low : depth tree n ≤ depth tree p = depth_below tree trees n p is in
      omega arith

  -- an element is an inclusive ancestor of what is below it
  pub ancestor_of : (n m : ℕ) → IsBelow tree n m → is_inclusive_ancestor tree n m ≡ true
  unfolding is_inclusive_ancestor is_in_path is_among
  ancestor_of n m is =
      to_below tree trees (λ k. is_among n (path_of (nodes_of tree) k) ≡ true) n m
      (λ c p up it. ap (is_among n) (path_child (nodes_of tree) c p up (trees.shallow p)) ∙ or_right (n == c) (is_among n (path_of (nodes_of tree) p)) it)
      (ap (is_among n) (path_self (nodes_of tree) n (trees.shallow n)) ∙ or_left (n == n) (is_among n (ancestors_of (nodes_of tree) n)) (eq-eqb n n refl)) is
