-- What stands behind shared references.
use Rattle.std.specs.Prelude.{List, map}
use Rattle.std.specs.declared.alloc.Global.{Global}
use Rattle.std.specs.declared.rc.Rc.{Rc}
use Rattle.oxt_facts.specs.Privates.{Privates}

-- the private names of each class
abbrev pub all_shared : List (Rc Privates Global) → List Privates
all_shared rs = map (λ r. r.value) rs
