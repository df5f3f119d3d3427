-- What lists of nodes say.
use Rattle.std.specs.Prelude.{ℕ, List, map}
use Rattle.oxt_options.specs.Facts.{Facts}
use Rattle.oxt_options.specs.declared.lists.PlanLists.{PlanLists}
use Rattle.oxt_options.specs.declared.metadata.MetadataType.{MetadataType}
use Rattle.oxt_names.specs.Constant.{Constant, constant_view}
use Rattle.oxt_names.specs.declared.constant.ConstantValue.{ConstantValue}
use Rattle.oxt_names.specs.declared.ids.NodeId.{NodeId}

-- the numbers of the nodes
abbrev pub numbers_in : List NodeId → List ℕ
numbers_in ns = map (λ n. n.0) ns

-- the constants by the numbers of their nodes
abbrev pub by_number : List (NodeId × ConstantValue) → List (ℕ × ConstantValue)
by_number cs = map (λ c. (c.0.0, c.1)) cs

-- the same as contracts see them
abbrev pub constants_in : List (NodeId × ConstantValue) → List (ℕ × Constant)
constants_in cs = map (λ c. (c.0.0, constant_view c.1)) cs

-- the references with their classes, by number
abbrev pub pairs_in : List (NodeId × NodeId) → List (ℕ × ℕ)
pairs_in cs = map (λ c. (c.0.0, c.1.0)) cs

-- the annotations with what is written for them, by number
abbrev pub types_in : List (NodeId × MetadataType) → List (ℕ × MetadataType)
types_in ts = map (λ t. (t.0.0, t.1)) ts

-- the lists by number
abbrev pub facts_in : PlanLists → Facts
facts_in l =
    record {
      kept = numbers_in l.kept.items;
      first = numbers_in l.first.items;
      dropped = numbers_in l.dropped.items;
      inlined = constants_in l.inlined.items;
      never_written = numbers_in l.never_written.items;
      aliases = pairs_in l.aliases.items;
      metadata = types_in l.metadata.items;
      written = pairs_in l.written.items;
    }
