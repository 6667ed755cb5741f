-- What the types of the code and the results of its readers stand for.
use Rattle.std.specs.Prelude.{◌≡◌, ℕ, true, false, List, length, map, take, Result, Ok, Err}
use Rattle.std.specs.Borrow.{Bor}
use Rattle.script_model.specs.Readers.{◌>>=◌}
use Rattle.script_model.specs.Media.{Read, byte_at, skip, query_at}
use Rattle.script_model.specs.Queries.{Feature as Test, WidthFeature, HeightFeature, OrientationFeature, MediaQuery as Asked, Typed as AskedTyped, NotFeature as AskedNot, AllFeatures, AnyFeatures}
use Rattle.script_model.specs.Queries.{Comparison as Relation, Exactly as Same, AtLeast as NotBelow, AtMost as NotAbove, MediaType as Medium, AllMedia, ScreenMedia, PrintMedia, Prefix as Before, NoPrefix, NotPrefix, OnlyPrefix}
use Rattle.media_queries.specs.declared.bytes.Stopped.{Stopped}
use Rattle.media_queries.specs.declared.queries.ReadFault.{ReadFault}
use Rattle.media_queries.specs.declared.queries.ReadFault.TheVariants.{At, Memory}
use Rattle.media_queries.specs.declared.features.Comparison.{Comparison}
use Rattle.media_queries.specs.declared.features.Comparison.TheVariants.{Exactly, AtLeast, AtMost}
use Rattle.media_queries.specs.declared.features.Dimension.{Dimension}
use Rattle.media_queries.specs.declared.features.Dimension.TheVariants.{Width, Height}
use Rattle.media_queries.specs.declared.features.Orientation.{Orientation}
use Rattle.media_queries.specs.declared.features.Orientation.TheVariants.{Portrait, Landscape}
use Rattle.media_queries.specs.declared.features.Feature.{Feature}
use Rattle.media_queries.specs.declared.features.Feature.TheVariants.{Sized, Oriented}
use Rattle.media_queries.specs.declared.queries.MediaType.{MediaType}
use Rattle.media_queries.specs.declared.queries.MediaType.TheVariants.{All, Screen, Print}
use Rattle.media_queries.specs.declared.queries.Prefix.{Prefix}
use Rattle.media_queries.specs.declared.queries.Prefix.TheVariants.{Absent, Not, Only}
use Rattle.media_queries.specs.declared.queries.MediaQuery.{MediaQuery}
use Rattle.media_queries.specs.declared.queries.MediaQuery.TheVariants.{Typed, NotFeature, Every, Either}
use Rattle.media_queries.specs.declared.QueryFault.{QueryFault}
use Rattle.media_queries.specs.declared.QueryFault.TheVariants.{BadQuery, Memory as NoMemory}

abbrev pub comparison_of : Comparison → Relation
comparison_of Exactly = Same
comparison_of AtLeast = NotBelow
comparison_of AtMost = NotAbove

-- the feature that compares this dimension with a length
abbrev pub sized_of : Relation → Dimension → ℕ → Test
sized_of compared Width = WidthFeature compared
sized_of compared Height = HeightFeature compared

abbrev pub orientation_of : Orientation → Test
orientation_of Portrait = OrientationFeature true
orientation_of Landscape = OrientationFeature false

abbrev pub feature_of : Feature → Test
feature_of (Sized dimension compared units) = sized_of (comparison_of compared) dimension units
feature_of (Oriented orientation) = orientation_of orientation

abbrev pub medium_of : MediaType → Medium
medium_of All = AllMedia
medium_of Screen = ScreenMedia
medium_of Print = PrintMedia

abbrev pub prefix_of : Prefix → Before
prefix_of Absent = NoPrefix
prefix_of Not = NotPrefix
prefix_of Only = OnlyPrefix

abbrev pub query_of : MediaQuery → Asked
query_of (Typed before medium features) = AskedTyped (prefix_of before) (medium_of medium) (map feature_of features.items)
query_of (NotFeature feature) = AskedNot (feature_of feature)
query_of (Every first others) = AllFeatures (feature_of first) (map feature_of others.items)
query_of (Either first second others) = AnyFeatures (feature_of first) (feature_of second) (map feature_of others.items)

-- the query after a comma, with the spaces and tabs around the comma
abbrev pub next_of : List ℕ → Read Asked
next_of text = byte_at 44 (skip text) >>= λ rest. query_at (skip rest)

-- the bytes that are left, or the fault
abbrev pub rest_of : Result (Bor (List ℕ)) Stopped → Result (List ℕ) ℕ
rest_of (Ok rest) = Ok rest.now
rest_of (Err stopped) = Err stopped.left

-- the same with the value that was read before them
abbrev pub read_of : {A B : Type 0} → (A → B) → Result (A × Bor (List ℕ)) Stopped → Read B
read_of seen (Ok read) = Ok (seen read.0, read.1.now)
read_of seen (Err stopped) = Err stopped.left

-- a reader that allocates memory gives exactly this result, unless memory runs out
abbrev pub Reads : {A B : Type 0} → (A → B) → Result (A × Bor (List ℕ)) ReadFault → Read B → Type 0
Reads seen (Ok read) answer = answer ≡ Ok (seen read.0, read.1.now)
Reads seen (Err (At stopped)) answer = answer ≡ Err stopped.left
Reads seen (Err Memory) answer = Unit {0}

-- the same for a reader of a whole text
abbrev pub ReadsAll : {A B : Type 0} → (A → B) → Result A ReadFault → Result B ℕ → Type 0
ReadsAll seen (Ok value) answer = answer ≡ Ok (seen value)
ReadsAll seen (Err (At stopped)) answer = answer ≡ Err stopped.left
ReadsAll seen (Err Memory) answer = Unit {0}

-- what a text gives is exactly this, unless memory runs out
abbrev pub Parses : Result (List Asked) QueryFault → Result (List Asked) ℕ → Type 0
Parses (Ok queries) answer = answer ≡ Ok queries
Parses (Err (BadQuery column)) answer = answer ≡ Err column
Parses (Err NoMemory) answer = Unit {0}

-- the old list is the beginning of the new one
abbrev pub Keeps : List ℕ → List ℕ → Type 0
Keeps old new = take (length old) new ≡ old
