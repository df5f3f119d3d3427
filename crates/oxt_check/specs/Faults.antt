-- What a fault says, and the faults of a source tree.
use Rattle.std.specs.Prelude.{◌≡◌, ℕ, List, [], Bool, if◌then◌else◌, Option, None, Some, option_map, unwrap_or, ⊤}
use Rattle.std.specs.Option.{option_or}
use Rattle.oxt_check.specs.Captures.{first_capture}
use Rattle.oxt_check.specs.Misplacements.{first_misplacement}
use Rattle.oxt_check.specs.Refusals.{Refusal, json, shape, misplaced_node, wide_member, captured_name, uncertified, difference_in, span_of}
use Rattle.oxt_check.specs.declared.fault.Fault.{Fault}
use Rattle.oxt_check.specs.declared.fault.Fault.TheVariants as fault
use Rattle.oxt_enum_checks.specs.First.{first_blocks}
use Rattle.oxt_enum_checks.specs.Wide.{wide}
use Rattle.oxt_enum_checks.specs.declared.wide.WideMember.{WideMember}
use Rattle.oxt_faults.specs.Captured.{Capture}
use Rattle.oxt_faults.specs.Misplaced.{Misplacement}
use Rattle.oxt_fields.specs.Aliases.{alias_uses}
use Rattle.oxt_fields.specs.Rules.{Rules, rules_of}
use Rattle.oxt_fields.specs.Written.{never_written}
use Rattle.oxt_dropped.specs.DroppedEnums.{dropped}
use Rattle.oxt_inline.specs.Inlined.{inlined}
use Rattle.oxt_metadata.specs.Symbols.{types_in, written_in}
use Rattle.oxt_metadata.specs.Whole.{Written, metadata_of}
use Rattle.oxt_modules.specs.Kept.{kept}
use Rattle.oxt_options.specs.Options.{TransformData}
use Rattle.oxt_valid.specs.Place.{place_of}
use Rattle.oxt_options.specs.Facts.{Facts, is_in, last_alias, last_constant}
use Rattle.oxt_options.specs.Metadata.{last_type}
use Rattle.oxt_scoping.specs.Scoped.{Scoped}
use Rattle.oxt_tree.specs.Doc.{Doc}
use Rattle.oxt_tree.specs.Syntax.{is_definition_file}
use Rattle.oxt_names.specs.Names.{name_bytes}

-- the refusal that a fault is; none for want of memory
abbrev pub refusal_in : Fault → Option Refusal
refusal_in fault.OutOfMemory = None
refusal_in fault.Json = Some json
refusal_in (fault.Shape place) = Some (shape (name_bytes place))
refusal_in (fault.Misplaced kind place) = Some (misplaced_node kind (name_bytes place))
refusal_in (fault.Wide span) = Some (wide_member (span_of span))
refusal_in (fault.Captured name place) = Some (captured_name (name_bytes name) (name_bytes place))
refusal_in (fault.Uncertified mismatch) = Some (uncertified (difference_in mismatch))

-- ---- the faults of a source tree, of which that is the table of scopes and symbols

-- where the node of that number stands
abbrev pub place_text : Doc → ℕ → List ℕ
place_text d n = unwrap_or (place_of n d) []

abbrev pub misplaced_refusal : Doc → Misplacement → Refusal
misplaced_refusal d m = misplaced_node m.0 (place_text d m.1)

abbrev pub wide_refusal : WideMember → Refusal
wide_refusal w = wide_member (span_of w.span)

abbrev pub captured_refusal : Doc → Capture → Refusal
captured_refusal d c = captured_name c.name (place_text d c.node)

-- ---- what is known of it

-- What is known of a tree in which metadata writes that and that is kept: besides it the blocks that come first in their enums
-- and namespaces, the blocks that are dropped, the expressions that are inlined with their constants, and the names that nothing
-- writes to.
abbrev pub listed_by : Written → List ℕ → Scoped → Doc → TransformData → Facts
listed_by m ks s d o =
    record {
      kept = ks;
      first = first_blocks s d;
      dropped = dropped s (is_in ks) (is_in m.named) d o.typescript o.decorator.legacy;
      inlined = inlined s (is_in ks) d o.typescript;
      never_written = never_written s d;
      aliases = [];
      metadata = types_in m.annotations;
      written = written_in m.annotations;
    }

-- the rules by which the fields of a tree are lowered of which that is known
abbrev pub rules_by : Facts → TransformData → Rules
rules_by f o =
    rules_of o (is_in f.never_written) (last_constant f.inlined) (last_alias f.aliases) (last_type f.metadata) (last_alias f.written)

-- that, and which names are read as the aliases of decorated classes
abbrev pub with_aliases : Scoped → Doc → TransformData → Facts → Facts
with_aliases s d o f = record f { aliases = alias_uses s (rules_by f o) d }

abbrev pub facts_by : Written → List ℕ → Scoped → Doc → TransformData → Facts
facts_by m ks s d o = with_aliases s d o (listed_by m ks s d o)

-- the same, where what is kept follows from the names of the tree, and from those that metadata writes
abbrev pub facts_with : Written → Scoped → Doc → TransformData → Facts
facts_with m s d o = facts_by m (kept s (is_in m.named) d o.typescript o.decorator.legacy) s d o

-- the same of the source tree
abbrev pub facts_of : Scoped → Doc → TransformData → Facts
facts_of s d o = facts_with (metadata_of s o.decorator d) s d o

-- ---- its first fault

-- The first misplaced node, and else the first member whose constant would be too large, and else the first captured
-- name, where fields are lowered by these rules and that is kept.
abbrev pub place_fault : Scoped → Rules → (ℕ → Bool) → Doc → Option Refusal
place_fault s r ks d =
    option_or (option_map (misplaced_refusal d) (first_misplacement s r d))
    (option_or (option_map wide_refusal (wide r.legacy s d)) (option_map (captured_refusal d) (first_capture s r ks d)))

-- the same of any tree: in a file of definitions, of which nothing is left, nothing is at fault
abbrev pub code_fault : Scoped → Rules → (ℕ → Bool) → Doc → Option Refusal
code_fault s r ks d = if is_definition_file d then None else place_fault s r ks d

-- the same by what is known of the tree
abbrev pub fault_by : Facts → Scoped → Doc → TransformData → Option Refusal
fault_by f s d o = code_fault s (rules_by f o) (is_in f.kept) d

-- The first reason for which a source tree is refused: where it is no file of definitions, a misplaced node, a constant
-- that would be too large, or a captured name.
abbrev pub first_fault : Scoped → Doc → TransformData → Option Refusal
first_fault s d o = fault_by (facts_of s d o) s d o

-- it is that fault; for want of memory, nothing is said
abbrev pub IsThe : Option Refusal → Option Refusal → Type 0
IsThe None f = ⊤
IsThe (Some r) f = f ≡ Some r

-- it is the first fault of the source tree
abbrev pub IsFaultOf : Option Refusal → Scoped → Doc → TransformData → Type 0
IsFaultOf r s d o = IsThe r (first_fault s d o)
