-- Which hooks run at a document.
use Rattle.std.specs.Prelude.{◌≡◌, List, [], ◌∷◌, ◌++◌, Bool, false, if◌then◌else◌}
use Rattle.oxt_grammar.specs.declared.category.Category.{Category}
use Rattle.oxt_ctx.specs.Reached.{as_kind, as_left, at_place, from_place, wants}
use Rattle.oxt_ctx.specs.declared.hook.Hook.{Hook}
use Rattle.oxt_tree.specs.Doc.{Doc, node}

-- a hook, and the document that it is handed: a node, or a list of statements
pub data Visit : Type 0 where
  visit : Hook → Doc → Visit

-- the hook is for the document, where its place reaches it
abbrev pub wants_doc : Hook → Doc → Bool
wants_doc h (node k i b e ds) = wants h k
wants_doc h d = false

-- those of the hooks that want the document run, in their order
abbrev pub visits_by : List Hook → Doc → List Visit
visits_by [] d = []
visits_by (h ∷ hs) d = if wants_doc h d then visit h d ∷ visits_by hs d else visits_by hs d

-- those for the kind of a node before its parts run
abbrev pub by_kind : Doc → List Visit
by_kind (node k i b e ds) = visits_by (as_kind k) (node k i b e ds)
by_kind d = []

-- those for the kind of a node after its parts run
abbrev pub by_kind_left : Doc → List Visit
by_kind_left (node k i b e ds) = visits_by (as_left k) (node k i b e ds)
by_kind_left d = []

-- the visits of a node before its parts: by the hooks of its place, and then by those of its kind
abbrev pub entered : Category → Doc → List Visit
entered p d = visits_by (at_place p) d ++ by_kind d

-- the visits of a node after its parts: by the hooks of its kind, and then by those of its place
abbrev pub left : Category → Doc → List Visit
left p d = by_kind_left d ++ visits_by (from_place p) d

-- what a log gets of the visits
abbrev pub traces : (Visit → List Visit) → List Visit → List Visit
traces trace [] = []
traces trace (v ∷ vs) = trace v ++ traces trace vs

-- Where the premise holds, the log has grown by what it gets of the visits.
pub record HasLogged (Premise : Type 0) (trace : Visit → List Visit) (before after visits : List Visit) : Type 0 where
  pub grown : Premise → after ≡ before ++ traces trace visits
