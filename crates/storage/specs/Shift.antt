-- Adding a shift to the coordinates, round 32 bits.
use Rattle.std.specs.Prelude.{List, map, ℤ, ◌+ℤ◌, ◌-ℤ◌}
use Rattle.std.specs.Int.{int_wrap, w32}
use Rattle.plane.specs.declared.halfsegment.Halfsegment.{Halfsegment}

abbrev pub moved : ℤ → ℤ → Halfsegment → Halfsegment
moved dx dy r = record {
  dominating = record { x = int_wrap w32 (r.dominating.x +ℤ dx); y = int_wrap w32 (r.dominating.y +ℤ dy) };
  far = record { x = int_wrap w32 (r.far.x +ℤ dx); y = int_wrap w32 (r.far.y +ℤ dy) };
}

abbrev pub moved_back : ℤ → ℤ → Halfsegment → Halfsegment
moved_back dx dy r = record {
  dominating = record { x = int_wrap w32 (r.dominating.x -ℤ dx); y = int_wrap w32 (r.dominating.y -ℤ dy) };
  far = record { x = int_wrap w32 (r.far.x -ℤ dx); y = int_wrap w32 (r.far.y -ℤ dy) };
}

abbrev pub all_moved : ℤ → ℤ → List Halfsegment → List Halfsegment
all_moved dx dy rs = map (moved dx dy) rs
