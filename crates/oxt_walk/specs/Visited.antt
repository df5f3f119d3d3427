-- The visits of a walk: which hooks are run at which documents, in their order.
use Rattle.std.specs.Prelude.{ℕ, ◌-◌, ◌==◌, List, [], ◌∷◌, ◌++◌, Bool, true, false, if◌then◌else◌, codes, Option, None, Some}
use Rattle.oxt_grammar.specs.Field.{Field}
use Rattle.oxt_grammar.specs.Rows.{row_of}
use Rattle.oxt_grammar.specs.declared.category.Category.{Category}
use Rattle.oxt_grammar.specs.declared.category.Category.TheVariants as category
use Rattle.oxt_ctx.specs.Visits.{Visit, visit, entered, left}
use Rattle.oxt_ctx.specs.declared.hook.Hook.TheVariants as hook
use Rattle.oxt_tree.specs.Doc.{Doc, nil, flag, number, text, list, node, Docs, no_docs, doc}
use Rattle.oxt_tree.specs.Fields.{field_of}
use Rattle.oxt_traverse.specs.Place.{is_statements, place_of}

-- how many levels of nodes are walked below the program
abbrev pub walked_levels : ℕ
walked_levels = 1024

-- The visits of a node at a place, where those inside it are given: none where no level is left.
abbrev pub with_hooks : Category → ℕ → Doc → List Visit → List Visit
with_hooks p n d inside = if n == 0 then [] else entered p d ++ (inside ++ left p d)

-- the visits of a list of statements, where those of its elements are given
abbrev pub of_statements : Doc → List Visit → List Visit
of_statements d inside = visit hook.EnterStatements d ∷ (inside ++ visit hook.ExitStatements d ∷ [])

-- the visits of a list
abbrev pub of_list : Bool → Doc → List Visit → List Visit
of_list true d inside = of_statements d inside
of_list false d inside = inside

-- the visits of an element of a list: it is walked where it is a node
abbrev pub of_element : Doc → List Visit → List Visit
of_element (node k i b e ds) vs = vs
of_element d vs = []

-- the visits of what a field holds, where those at each place are given: none where it holds no nodes
abbrev pub of_field : Option Category → (Category → ℕ → List Visit) → ℕ → List Visit
of_field None at n = []
of_field (Some p) at n = at p n

abbrev mutual
  -- the visits of what stands at a place, where so many levels are left
  pub visits : Doc → Category → ℕ → List Visit
  visits nil p n = []
  visits (flag b) p n = []
  visits (number i) p n = []
  visits (text t) p n = []
  visits (list ds) p n = of_list (is_statements p) (list ds) (visits_each ds p n)
  visits (node k i b e ds) p n = with_hooks p n (node k i b e ds) (visits_fields ds (row_of k) (n - 1))

  -- those of the elements of a list
  pub visits_each : Docs → Category → ℕ → List Visit
  visits_each no_docs p n = []
  visits_each (doc d ds) p n = of_element d (visits d p n) ++ visits_each ds p n

  -- those of what the fields of a node hold, by the rows of its kind
  pub visits_fields : Docs → List Field → ℕ → List Visit
  visits_fields no_docs rs n = []
  visits_fields (doc d ds) [] n = []
  visits_fields (doc d ds) (r ∷ rs) n = of_field (place_of r.holds) (visits d) n ++ visits_fields ds rs n

-- the visits of what a node holds
abbrev pub inside : Doc → ℕ → List Visit
inside (node k i b e ds) n = visits_fields ds (row_of k) n
inside d n = []

-- the visits of the statements of a program
abbrev pub of_body : Doc → List Visit
of_body (list ds) = of_statements (list ds) (visits_each ds category.Item walked_levels)
of_body d = []

-- the visits of a program
abbrev pub visits_of_program : Doc → List Visit
visits_of_program d = visit hook.EnterProgram d ∷ (of_body (field_of (codes "body") d) ++ visit hook.ExitProgram d ∷ [])
