-- Texts of scripts that are too long to be written out.
use Rattle.std.specs.Prelude.{ℕ, zero, suc, List, [], ◌++◌, codes}
use Rattle.word_model.specs.Numbers.{decimal}

-- the name of the block at a depth
unfoldable pub block_name : ℕ → List ℕ
unfolding decimal
block_name depth = codes "e" ++ decimal depth

-- lines that make a block a hundred times as wide as what it is put into
unfoldable pub wide_block : ℕ → List ℕ → List ℕ
unfolding block_name
wide_block depth parent =
    codes "block " ++ block_name depth ++ codes " top\n"
    ++ codes "set " ++ block_name depth ++ codes " width 10000%\n"
    ++ codes "append " ++ parent ++ codes " " ++ block_name depth ++ codes "\n"

-- so many further blocks, each in the one before
unfoldable pub blocks_below : ℕ → ℕ → List ℕ
unfolding wide_block block_name
blocks_below depth zero = []
blocks_below depth (suc count) = wide_block (suc depth) (block_name depth) ++ blocks_below (suc depth) count

-- a script with a chain of 256 blocks
unfoldable pub deep_page : List ℕ
unfolding wide_block blocks_below
deep_page = codes "script 1\n" ++ wide_block 1 (codes "top") ++ blocks_below 1 255
