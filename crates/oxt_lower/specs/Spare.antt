-- What names have to spare that are renamed.
use Rattle.std.specs.Prelude.{◌≡◌, ◌≤◌, ◌&&◌, ℕ, nat_lt, if◌then◌else◌}
use Rattle.oxt_grammar.specs.Places.{same_kind}
use Rattle.oxt_grammar.specs.declared.kind.Kind.{Kind}
use Rattle.oxt_grammar.specs.declared.kind.Kind.TheVariants as kind
use Rattle.oxt_tree.specs.Doc.{Doc}
use Rattle.oxt_visit.specs.Weight.{weight}

-- A name with a number below that one may become a member of a name.
abbrev pub spare_before : ℕ → Kind → ℕ → ℕ
spare_before first k n = if same_kind k kind.IdentifierReference && nat_lt n first then 2 else 0

-- The document weighs what a member of a name weighs that is made from that number on.
abbrev pub IsLight : ℕ → Doc → Type 0
IsLight next d = (first : ℕ) → first ≤ next → weight (spare_before first) d ≡ 3

-- the second document is no heavier than the first, whatever nodes have to spare
abbrev pub IsNoHeavier : Doc → Doc → Type 0
IsNoHeavier old new = (spare : Kind → ℕ → ℕ) → weight spare new ≤ weight spare old
