-- What a name means, from the innermost scope outwards.
use Rattle.std.specs.Prelude.{ℕ, List, [], ◌∷◌, Bool, ◌&&◌, if◌then◌else◌, Option, None, Some}
use Rattle.std.specs.List.{list_any}
use Rattle.std.specs.Str.{bytes_eq}
use Rattle.oxt_tree.specs.Doc.{Doc, node}
use Rattle.oxt_declares.specs.Declarations.{Declared, has}
use Rattle.oxt_declares.specs.Declares.{members_in}
use Rattle.oxt_declares.specs.declared.declaration.Sight.{Sight}
use Rattle.oxt_declares.specs.declared.declaration.Sight.TheVariants as sight

-- A scope, as names see it: the number of the node whose group a name means, and of the enum blocks
-- of that name in it the number of the first body with that member.
pub record Level : Type 0 where
  pub find : Sight → List ℕ → Option ℕ
  pub block : List ℕ → List ℕ → Option ℕ

-- the number of a node, and 0 for anything else
abbrev pub number_of : Doc → ℕ
number_of (node k i b e ds) = i
number_of d = 0

-- some declaration has that name
abbrev pub has_name : List ℕ → List Declared → Bool
has_name t ds = list_any (λ d. bytes_eq t d.name) ds

-- the first answer, if there is one, and else the second
abbrev pub or_else : Option ℕ → Option ℕ → Option ℕ
or_else None b = b
or_else (Some i) b = Some i

-- the enum block with that name has that member
abbrev pub is_block_of : List ℕ → List ℕ → Declared → Bool
is_block_of e t d = has_name t (members_in d.body) && bytes_eq e d.name

-- the number of the body of the first block of an enum of that name that has that member
abbrev pub block_in : List ℕ → List ℕ → List Declared → Option ℕ
block_in e t [] = None
block_in e t (d ∷ ds) = if is_block_of e t d then Some (number_of d.body) else block_in e t ds

-- a block of the enum of that name in the scope around it, which is the first of the list
abbrev pub beside : Option (List ℕ) → List Level → List ℕ → Option ℕ
beside None ls t = None
beside (Some e) [] t = None
beside (Some e) (l ∷ ls) t = l.block e t

-- a scope with that number that declares these, in a block of the enum of that name if there is one
abbrev pub level : ℕ → List Declared → Option (List ℕ) → List Level → Level
level n ds e ls = record {
  find = λ s t. if has s t ds then Some n else beside e ls t;
  block = λ d t. block_in d t ds;
}

-- What a name means that is read so: the group in the innermost scope that has one.
abbrev pub look : Sight → List ℕ → List Level → Option ℕ
look s t [] = None
look s t (l ∷ ls) = or_else (l.find s t) (look s t ls)

-- The same in the signature of the innermost function, of which only type parameters are seen.
abbrev pub look_in_signature : List ℕ → List Level → Option ℕ
look_in_signature t [] = None
look_in_signature t (l ∷ ls) = or_else (l.find sight.TypeParameter t) (look sight.Type t ls)
