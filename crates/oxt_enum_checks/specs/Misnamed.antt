-- The first member or bare name of a member that cannot be lowered.
use Rattle.std.specs.Prelude.{ℕ, List, [], ◌∷◌, ◌++◌, Bool, ◌&&◌, ◌||◌, ◌==◌, if◌then◌else◌, Option, None, Some, min}
use Rattle.std.specs.List.{list_any}
use Rattle.std.specs.Str.{bytes_eq}
use Rattle.oxt_enum_checks.specs.Members.{Member, members_of}
use Rattle.oxt_enum_checks.specs.Misused.{misused}
use Rattle.oxt_scoping.specs.Scoped.{Scoped}
use Rattle.oxt_tree.specs.Doc.{Doc}

-- the other is a member of the same enum with the same name
abbrev pub is_namesake : Member → Member → Bool
is_namesake m o = m.around.symbol == o.around.symbol && bytes_eq m.name o.name

-- the member has the name of its enum, or that of a member of the enum among these
abbrev pub is_repeated : List Member → Member → Bool
is_repeated before m = bytes_eq m.name m.around.name || list_any (is_namesake m) before

-- the number of the first of the members that is so, where these stand before them
abbrev pub first_repeated : List Member → List Member → Option ℕ
first_repeated before [] = None
first_repeated before (m ∷ ms) = if is_repeated before m then Some m.node else first_repeated (before ++ m ∷ []) ms

-- the lesser of two numbers, or the one that there is
abbrev pub lesser : Option ℕ → Option ℕ → Option ℕ
lesser None b = b
lesser (Some m) None = Some m
lesser (Some m) (Some n) = Some (min m n)

-- the lesser number of the first such member and that of a bare name that is misused; the flag says whether decorators
-- have their older meaning
abbrev pub misnamed_beside : Bool → Scoped → Doc → Option ℕ → Option ℕ
misnamed_beside l s d found = lesser (first_repeated [] (members_of l s d)) found

-- the same of the first such bare name
abbrev pub misnamed : Bool → Scoped → Doc → Option ℕ
misnamed l s d = misnamed_beside l s d (misused l s d)
