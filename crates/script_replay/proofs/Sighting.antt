-- What is told of a page as a tick ends.
use Rattle.std.proofs.Common.{◌≡◌, ◌∙◌, ℕ, ◌-◌, ◌≤◌, true, false, cond, nat_lt, ◌==◌, List, [], ◌∷◌, ◌++◌, codes, flat_map, length, map, take, Result, IfOk, refl, ap, sym, subst, arith, tests}
use Rattle.std.proofs.lemmas.Bool.{eqb-true}
use Rattle.std.proofs.lemmas.List.{append_assoc, take_all}
use Rattle.word_model.specs.Numbers.{decimal}
use Rattle.px_units.specs.declared.Point.{Point}
use Rattle.script_model.specs.Syntax.{Item}
use Rattle.element_tree.specs.declared.node.NodeId.{NodeId}
use Rattle.element_tree.specs.Links.{number as numbered}
use Rattle.page_model.specs.Names.{element_text}
use Rattle.page_model.specs.World.{Name, World}
use Rattle.box_inspector.specs.declared.lines.BoxLine.{BoxLine}
use Rattle.box_inspector.specs.Boxes.{box_list}
use Rattle.box_inspector.specs.BoxText.{box_text, boxes_text}
use Rattle.hit_test.specs.Hits.{hits}
use Rattle.script_replay.specs.ScriptReplies.{told_text}
use Rattle.script_replay.specs.Sights.{hit_text, hits_text, sight_text, ticks_text}
use Rattle.script_items.specs.Stops.{tick_count}
use Rattle.run_replies.specs.declared.words.Sight.{Sight}
use Rattle.run_replies.specs.declared.words.Sight.TheVariants.{Boxes, Hits}

-- the line of a script with fewer ticks
pub ticks_told : (count : ℕ) (first second whole : List ℕ) → first ≡ codes "ticks " → second ≡ first ++ decimal count → whole ≡ second ++ (10 ∷ []) → whole ≡ ticks_text count
unfolding ticks_text
ticks_told count first second whole a b c = c ∙ ap (λ text. text ++ (10 ∷ [])) (b ∙ ap (λ text. text ++ decimal count) a)

-- boxes
pub boxes_told : (lines : List BoxLine) (i : ℕ) (text : List ℕ) → length lines ≤ i → text ≡ flat_map box_text (take i lines) → text ≡ boxes_text lines
unfolding boxes_text
boxes_told lines i text past told = told ∙ ap (flat_map box_text) (take_all i lines past)

-- hits
pub hit_pushed : (old first second whole bytes name : List ℕ) → first ≡ old ++ codes "hit " → second ≡ first ++ bytes → bytes ≡ name → whole ≡ second ++ (10 ∷ [])
    → whole ≡ old ++ hit_text name
unfolding hit_text
hit_pushed old first second whole bytes name a b is c =
    c
    ∙ ap (λ text. text ++ (10 ∷ [])) (b ∙ ap (λ text. text ++ bytes) a ∙ ap (λ text. (old ++ codes "hit ") ++ text) is ∙ append_assoc old (codes "hit ") name)
    ∙ append_assoc old (codes "hit " ++ name) (10 ∷ [])

by_name : (names : List Name) (nodes : List NodeId) → flat_map (λ (node : NodeId). hit_text (element_text names (node.0))) nodes
    ≡ flat_map hit_text (map (element_text names) (map numbered nodes))
by_name names [] = refl
by_name names (node ∷ nodes) = ap (λ rest. hit_text (element_text names (node.0)) ++ rest) (by_name names nodes)

pub miss_told : (names : List Name) (nodes : List NodeId) (text : List ℕ) → (length nodes == 0) ≡ true → text ≡ codes "miss\n"
    → text ≡ hits_text (map (element_text names) (map numbered nodes))
unfolding hits_text
miss_told names [] text none told = told
miss_told names (node ∷ nodes) text none told = let no = eqb-true (length (node ∷ nodes)) 0 none in absurd (omega (arith, no))

some_told : (names : List Name) (nodes : List NodeId) (text : List ℕ) → (length nodes == 0) ≡ false
    → text ≡ flat_map hit_text (map (element_text names) (map numbered nodes)) → text ≡ hits_text (map (element_text names) (map numbered nodes))
unfolding hits_text
some_told names [] text some told = absurd (let no : ⊥ = cc in no)
some_told names (node ∷ nodes) text some told = told

pub hits_told : (names : List Name) (nodes : List NodeId) (i : ℕ) (text : List ℕ) → (length nodes == 0) ≡ false → length nodes ≤ i
    → text ≡ flat_map (λ (node : NodeId). hit_text (element_text names (node.0))) (take i nodes) → text ≡ hits_text (map (element_text names) (map numbered nodes))
hits_told names nodes i text some past told =
    some_told names nodes text some
    (told ∙ ap (flat_map (λ (node : NodeId). hit_text (element_text names (node.0)))) (take_all i nodes past) ∙ by_name names nodes)

module _ {A E : Type 0} (result : Result A E) (text : A → List ℕ) where
  -- by what is to be seen
  pub boxes_sight : (sight : Sight) (world : World) → sight ≡ Boxes → IfOk result (λ it. text it ≡ boxes_text (box_list world))
      → IfOk result (λ it. text it ≡ sight_text sight world)
  unfolding sight_text
  boxes_sight sight world is told = subst (λ (s : Sight). IfOk result (λ it. text it ≡ sight_text s world)) (sym is) told

  pub hits_sight : (sight : Sight) (at : Point) (world : World) → sight ≡ Hits at
      → IfOk result (λ it. text it ≡ hits_text (map (element_text (world.names)) (hits world at))) → IfOk result (λ it. text it ≡ sight_text sight world)
  unfolding sight_text
  hits_sight sight at world is told = subst (λ (s : Sight). IfOk result (λ it. text it ≡ sight_text s world)) (sym is) told

  -- by how many ticks are lacking
  module _ (sight : Sight) (number : ℕ) (items : List Item) (world : World) (lacking : ℕ) (is : lacking ≡ number - tick_count items) where
    pub none_lacks : lacking ≡ 0 → IfOk result (λ it. text it ≡ sight_text sight world) → IfOk result (λ it. text it ≡ told_text sight number items world)
    unfolding told_text
    none_lacks none told =
        let enough : nat_lt (tick_count items) number ≡ false = grind (arith, tests) in
        subst (λ b. IfOk result (λ it. text it ≡ cond b (ticks_text (tick_count items)) (sight_text sight world))) (sym enough) told

    pub some_lack : (count : ℕ) → (lacking ≡ 0 → ⊥) → count ≡ number - lacking → IfOk result (λ it. text it ≡ ticks_text count)
        → IfOk result (λ it. text it ≡ told_text sight number items world)
    unfolding told_text
    some_lack count some counted told =
        let fewer : nat_lt (tick_count items) number ≡ true = grind (arith, tests) in
        let same : count ≡ tick_count items = omega (arith, is, counted) in
        subst (λ b. IfOk result (λ it. text it ≡ cond b (ticks_text (tick_count items)) (sight_text sight world))) (sym fewer)
        (subst (λ n. IfOk result (λ it. text it ≡ ticks_text n)) same told)
