-- Both loops keep: the whole reading is what was read so far, in front of the reading of what is left.
use Rattle.std.proofs.Common.{◌≡◌, map, drop}
use Rattle.json.specs.Value.{items_view, members_view}
use Rattle.oxt_grammar.specs.Field.{row_view}
use Rattle.oxt_tree.specs.View.{part_doc}
use Rattle.oxt_json.specs.Data.{items_data, members_data}
use Rattle.oxt_json.specs.Reading.{each_as, member_as, fields_as}
use Rattle.oxt_json.proofs.Loops.{after}
use Rattle.oxt_json.proofs.nodes.+read.Given as goal

abbrev pub invariant-read_items-loop-index : goal.invariant-read_items-loop-index
invariant-read_items-loop-index l =
    each_as (items_data (items_view l.items)) l.setting 0 l.holds l.initial.ids.next
    ≡ after (map part_doc l.parts.items) (each_as (items_data (items_view (drop l.index l.items))) l.setting l.index l.holds l.ids.next)

abbrev pub invariant-read_fields-loop-row : goal.invariant-read_fields-loop-row
invariant-read_fields-loop-row l =
    fields_as (map row_view l.rows) (member_as (members_data (members_view l.members))) l.setting l.inner l.initial.ids.next
    ≡ after (map part_doc l.parts.items) (fields_as (map row_view (drop l.row-index l.rows)) (member_as (members_data (members_view l.members))) l.setting l.inner l.ids.next)
