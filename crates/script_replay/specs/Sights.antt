-- What is shown of a page at the end of a tick of its script. All of this is this project's own choice.
use Rattle.std.specs.Prelude.{ℕ, ◌-◌, List, [], ◌∷◌, ◌++◌, drop, flat_map, length, map, codes}
use Rattle.word_model.specs.Numbers.{decimal}
use Rattle.script_model.specs.TraceLines.{TraceLine}
use Rattle.page_model.specs.World.{World}
use Rattle.page_model.specs.Names.{element_text}
use Rattle.hit_test.specs.Hits.{hits}
use Rattle.box_inspector.specs.Boxes.{box_list}
use Rattle.box_inspector.specs.BoxText.{boxes_text}
use Rattle.run_replies.specs.declared.words.Sight.{Sight}
use Rattle.run_replies.specs.declared.words.Sight.TheVariants.{Boxes, Hits}

-- for a script with fewer ticks, how many it has
unfoldable pub ticks_text : ℕ → List ℕ
unfolding decimal
ticks_text count = codes "ticks " ++ decimal count ++ codes "\n"

-- the elements that a point hits, by their names, or one line if it hits none
unfoldable pub hit_text : List ℕ → List ℕ
hit_text name = codes "hit " ++ name ++ codes "\n"

unfoldable pub hits_text : List (List ℕ) → List ℕ
unfolding hit_text
hits_text [] = codes "miss\n"
hits_text (name ∷ names) = flat_map hit_text (name ∷ names)

-- what is shown of a page in a world
unfoldable pub sight_text : Sight → World → List ℕ
unfolding boxes_text box_list hits_text hits
sight_text Boxes world = boxes_text (box_list world)
sight_text (Hits at) world = hits_text (map (element_text (world.names)) (hits world at))

-- the last one of some lines
unfoldable pub last_of : List TraceLine → List TraceLine
last_of lines = drop (length lines - 1) lines
