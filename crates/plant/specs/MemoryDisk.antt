-- A disk in memory as clauses see it.
use Rattle.std.specs.Prelude.{ℕ, List, map}
use Rattle.plant.specs.declared.memory_disk.Content.{Content as ContentFields}
use Rattle.plant.specs.declared.memory_disk.Range.{Range}
use Rattle.plant.specs.declared.ghost_list.GhostList.{GhostList}
use Rattle.plant.specs.GhostList.{items_of}
use Rattle.plant.specs.Past.{Content}

abbrev pub ranges_of : GhostList Range → List (ℕ × ℕ)
ranges_of ranges = map (λ range. (range.at, range.count)) (items_of ranges)

abbrev pub content_value : ContentFields → Content
content_value fields = record {
  bytes = fields.bytes.items;
  stable = fields.stable.value.items;
  written = ranges_of fields.written;
  sent = fields.sent;
}
