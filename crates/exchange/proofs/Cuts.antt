-- Each way through the last refusals leaves of the call what the rules say; and what is written is the tree with the branch replaced.
use mathlib.Core.Path.{◌≡◌, refl, sym, ap, ◌∙◌}
use mathlib.Core.Bool.{Bool, true, false, ◌&&◌}
use mathlib.Core.List.{List, ◌++◌}
use Prim.Native.Nat.{ℕ, ◌+◌, ◌-◌, ◌≤◌, ◌<◌, min}
use native.Mathlib.Nat.{zero-add}
use native.Mathlib.Omega.{arith}
use borrow.Author.Tests.{lt-ltb, le-leb, lt-leb}
use lib.Dec.{leb}
use lib.Ieee.{Float}
use lib.ListN.{length, get_or, drop}
use Rattle.rules.specs.declared.behavior.Kind.{Kind}
use Rattle.rules.specs.declared.exchanged.Exchanged.{Exchanged}
use Rattle.rules.specs.declared.exchanged.Exchanged.TheVariants.{Done, StateHeld, TooLarge, ShortRoom}
use Rattle.rules.specs.Tree.{zero_time, Cell, Tree, size, depth}
use Rattle.rules.specs.Table.{table}
use Rattle.rules.specs.Exchange.{Room, GivenExchange, left_exchange, not_exchanged, free, replaced, size_at, written, replacing, exchange_call, new_sinces, onto_room, room, room_length}
use Rattle.rules.specs.Exchange.{listed, code_in, number_in, limit_in, time_in, place_in, mark_in}
use Rattle.laws.specs.Shape.{size_shape, depth_shape}
use Rattle.laws.specs.Memory.{held, held_shape}
use Rattle.laws.specs.Tables.{tabled}
use Rattle.lent.specs.Lengths.{cells_length}
use Rattle.std.specs.Bool.{then_some}
use Rattle.std.specs.Option.{ok_or}
use Rattle.std.specs.Prelude.{Option, Some, None, Result, Ok, Err, IsErrAnd}
use Rattle.branch.specs.declared.write.Cut.{Cut}
use Rattle.branch.specs.Each.{Each, Any}
use Rattle.branch.specs.Way.{above, Node, Stands, Lies, Leads}
use Rattle.branch.specs.Depth.{Depth}
use Rattle.branch.specs.Write.{values, source_of, from, at, limit_at, always, filled, Fits, filled_room}
use Rattle.exchange.specs.Due.{Due, Passed, Planned}
use Rattle.branch.proofs.Eachs.{each_map}
use Rattle.exchange.proofs.Levels.{size_replaced, depth_low, depth_high, above_low, branch_end, branch_fits}
use Rattle.exchange.proofs.Standing.{Fresh, fresh_stands, Stood, stands}
use Rattle.exchange.proofs.Columns.{Known, Cuts, column, since_column}

-- ---- what the checks of tables and cells leave, told by their answer
module _ (g : GivenExchange) (ends new_ends : List ℕ) {r : Result (ℕ × ℕ) Exchanged} (p : Passed g ends new_ends r) where
  pub refused : {a : Exchanged} → r ≡ Err a → exchange_call g ≡ not_exchanged g a
  refused e = rw e at p

  pub opened : {n m : ℕ} → r ≡ Ok (n, m) → Due g ends new_ends n m
  opened e = rw e at p

-- ---- what `?` makes of a refusal
pub not_planned : (g : GivenExchange) (r : Result Cut Exchanged) (a : Exchanged) → IsErrAnd r (λ e. e ≡ a) → exchange_call g ≡ not_exchanged g a → Planned g r
not_planned g (Ok x) a h is = absurd h
not_planned g (Err x) a h is = rw h is

-- ---- what the way says
way_free : (b : Bool) (n a : ℕ) (r : Option ℕ) → r ≡ then_some b n → r ≡ Some a → (b ≡ true) × (a ≡ n)
way_free true n a r e h = (refl, cc)
way_free false n a r e h = (cc, cc)

way_held : (b : Bool) (n : ℕ) (r : Option ℕ) → r ≡ then_some b n → r ≡ None → b ≡ false
way_held true n r e h = cc
way_held false n r e h = refl

pub is_free : (o : Option ℕ) (e : Exchanged) (r : Result ℕ Exchanged) (a : ℕ) → r ≡ ok_or o e → r ≡ Ok a → o ≡ Some a
is_free (Some x) e r a h is = cc
is_free None e r a h is = cc

pub is_held : (o : Option ℕ) (e : Exchanged) (r : Result ℕ Exchanged) (a : Exchanged) → r ≡ ok_or o e → r ≡ Err a → (o ≡ None) × (a ≡ e)
is_held (Some x) e r a h is = (cc, cc)
is_held None e r a h is = (refl, cc)

-- ---- room for so many nodes is in each slice
in_first : (n a b : ℕ) → n ≤ min a b → n ≤ a
in_first n a b h = omega arith

in_others : (n a b : ℕ) → n ≤ min a b → n ≤ b
in_others n a b h = omega arith

record InRoom (n : ℕ) (to : Room) : Type 0 where
  kinds : n ≤ length to.kinds
  ns : n ≤ length to.ns
  limits : n ≤ length to.limits
  times : n ≤ length to.times
  places : n ≤ length to.places
  marks : n ≤ length to.marks
  sinces : n ≤ length to.sinces

in_room : (n : ℕ) (to : Room) → n ≤ room_length to → InRoom n to
in_room n to h =
    let a = in_others n (length to.kinds) _ h in
    let b = in_others n (length to.ns) _ a in
    let c = in_others n (length to.limits) _ b in
    let d = in_others n (length to.times) _ c in
    let e = in_others n (length to.places) _ d in
    record {
      kinds = in_first n (length to.kinds) _ h;
      ns = in_first n (length to.ns) _ a;
      limits = in_first n (length to.limits) _ b;
      times = in_first n (length to.times) _ c;
      places = in_first n (length to.places) _ d;
      marks = in_first n (length to.marks) _ e;
      sinces = in_others n (length to.marks) _ e;
    }

module _ {g : GivenExchange} {ends new_ends : List ℕ} {n m : ℕ} (d : Due g ends new_ends n m) where
  -- the tree with its cells, and the branch
  abbrev t : Tree
  t = held d.old.tree g.cells'

  abbrev u : Tree
  u = d.new.tree

  held_size : size t ≡ n
  held_size = size_shape t d.old.tree (held_shape d.old.tree g.cells') ∙ d.old.sized

  abbrev Here : ℕ → Kind → ℕ → Float → Cell → Type 0
  Here = Stood g.kinds g.ns g.limits ends g.cells'.times g.cells'.places g.cells'.marks

  abbrev New : ℕ → Kind → ℕ → Float → Cell → Type 0
  New = Fresh g.new_kinds g.new_ns g.new_limits new_ends

  here : Each ends Here 0 t
  here =
      let c = cells_length g.cells'.times g.cells'.places g.cells'.marks in
      stands g.kinds g.ns g.limits ends g.cells'.times g.cells'.places g.cells'.marks d.old.tree d.old.stands
      (omega (arith, d.old.sized, d.in_times, d.in_places, d.in_marks))

  new : Each new_ends New 0 u
  unfolding table
  new = fresh_stands g.new_kinds g.new_ns g.new_limits new_ends u 0 d.new.stands (tabled g.new_kinds g.new_ns g.new_limits u d.new.is).0

  on_way : Stands g.kinds g.ns ends g.cells'.places g.cells'.marks t
  on_way = each_map ends Here (Node g.kinds g.ns ends g.cells'.places g.cells'.marks)
      (λ q k n l c s. record { kind = s.row.kind; number = sym s.row.number; place = sym s.cell.place; mark = sym s.cell.mark }) t 0 here

  inside : g.place < size t
  inside = omega (arith, held_size, d.inside)

  -- ---- 18
  pub lies : Lies g.kinds g.ns ends g.cells'.places g.cells'.marks g.place
  lies = record {
    tree = t;
    stands = on_way;
    inside = inside;
    few = omega (arith, held_size, d.old.few);
    in_kinds = omega (arith, held_size, d.old.in_kinds);
    in_ns = omega (arith, held_size, d.old.in_ns);
    in_places = omega (arith, held_size, d.in_places);
    in_marks = omega (arith, held_size, d.in_marks);
  }

  -- where the branch ends
  pub ends_at : get_or ends g.place 0 ≡ g.place + size_at t g.place
  ends_at = rw (zero-add g.place) at (branch_end ends Here t 0 g.place here inside)

  pub ends_low : get_or ends g.place 0 ≤ n
  ends_low = omega (arith, ends_at, held_size, branch_fits t g.place inside)

  module _ {r : Option ℕ} (k : Leads g.kinds g.ns ends g.cells'.places g.cells'.marks g.place r) where
    way : r ≡ then_some (free false t g.place) (above t g.place)
    way = k t on_way inside

    pub state_held : r ≡ None → exchange_call g ≡ not_exchanged g StateHeld
    state_held e = d.is ∙ rw (replacing, lt-ltb g.place (size t) inside, way_held (free false t g.place) (above t g.place) r way e)

    module _ {a : ℕ} (e : r ≡ Some a) where
      way_is : (free false t g.place ≡ true) × (a ≡ above t g.place)
      way_is = way_free (free false t g.place) (above t g.place) a r way e

      abbrev result : Tree
      result = replaced t g.place u

      abbrev sinces : List ℕ
      sinces = new_sinces t g.place u g.record'.ticks g.cells'.sinces

      writes : exchange_call g ≡ written g result sinces
      writes = d.is ∙ rw (replacing, lt-ltb g.place (size t) inside, way_is.0)

      -- ---- 19
      module _ {stop : ℕ} (s : stop ≡ get_or ends g.place 0) where
        abbrev cut : Cut
        cut = record { at = g.place; stop = stop; added = m; nodes = n - (stop - g.place) + m }

        result_size : size result ≡ n - (stop - g.place) + m
        result_size = omega (arith, size_replaced u t g.place inside, branch_fits t g.place inside, ends_at, held_size, d.new.sized, s)

        begins : g.place ≤ stop
        begins = omega (arith, ends_at, s)

        low : stop ≤ n
        low = omega (arith, ends_low, s)

        all_nodes : cut.nodes + stop ≡ n + g.place + m
        all_nodes = omega (arith, begins, low)

        cuts : Cuts cut t u
        cuts = record { inside = inside; ends = s ∙ ends_at; new = sym d.new.sized; all = rw held_size all_nodes }

        pub too_many : 256 < n - (stop - g.place) + m → exchange_call g ≡ not_exchanged g TooLarge
        too_many h = writes ∙ rw (written, result_size, lt-leb (n - (stop - g.place) + m) 256 h)

        module _ (few : n - (stop - g.place) + m ≤ 256) {levels : ℕ} (q : Depth new_ends m levels) where
          levels_are : levels ≡ depth u
          levels_are = q u (each_map new_ends New Any (λ q k n l c s. tt) u 0 new) d.new.sized d.new.levels

          pub small_sum : a + levels ≤ 272
          small_sum = omega (arith, way_is.1, levels_are, above_low t g.place, d.inside, d.old.few, d.new.levels)

          pub too_deep : 16 < a + levels → exchange_call g ≡ not_exchanged g TooLarge
          too_deep h =
              let low = depth_low u t g.place inside in
              let deep : 16 < depth result = omega (arith, way_is.1, levels_are) in
              writes ∙ rw (written, result_size, le-leb (n - (stop - g.place) + m) 256 few, lt-leb (depth result) 16 deep)

          module _ (shallow : a + levels ≤ 16) where
            t_depth : depth t ≤ 16
            t_depth = omega (arith, depth_shape t d.old.tree (held_shape d.old.tree g.cells'), d.old.levels)

            result_depth : depth result ≤ 16
            result_depth = omega (arith, depth_high u t g.place inside, t_depth, way_is.1, levels_are)

            fits_table : leb (size result) 256 && leb (depth result) 16 ≡ true
            fits_table = rw (result_size, le-leb (n - (stop - g.place) + m) 256 few, le-leb (depth result) 16 result_depth)

            -- ---- 20
            pub short_room : room_length g.room' < n - (stop - g.place) + m → exchange_call g ≡ not_exchanged g ShortRoom
            short_room h = writes ∙ rw (written, fits_table) (rw (result_size, lt-leb (n - (stop - g.place) + m) (room_length g.room') h))

            -- ---- what is written
            module _ (enough : n - (stop - g.place) + m ≤ room_length g.room') where
              abbrev to : Room
              to = g.room'

              module _ {A : Type 0} (field : Kind → ℕ → Float → Cell → A) (old fresh : ℕ → A) (of-old : (q : ℕ) (k : Kind) (n : ℕ) (l : Float) (c : Cell) → Here q k n l c → field k n l c ≡ old q)
                  (of-new : (q : ℕ) (k : Kind) (n : ℕ) (l : Float) (c : Cell) → New q k n l c → field k n l c ≡ fresh q) (l : List A) where
                filled_column : listed field result (drop (size result) l) ≡ filled cut old fresh l
                filled_column =
                    column cuts field ends new_ends old fresh (each_map ends Here (Known field ends old) of-old t 0 here) (each_map new_ends New (Known field new_ends fresh) of-new u 0 new)
                    (drop (size result) l)
                    ∙ ap (λ (z : ℕ). values (λ i. from old fresh (source_of cut i)) 0 cut.nodes ++ drop z l) result_size

              filled_sinces : sinces ++ drop (size result) to.sinces ≡ filled cut (at 0 g.cells'.sinces) (always g.record'.ticks) to.sinces
              filled_sinces = rw (since_column cuts g.record'.ticks g.cells'.sinces (rw held_size d.in_sinces), result_size)

              filled_room_lem : onto_room result sinces to ≡ filled_room cut g
              unfolding onto_room filled_room
              filled_room_lem = λ i. room
                  (filled_column code_in (at 0 g.kinds) (at 0 g.new_kinds) (λ q k n l c x. x.row.coded) (λ q k n l c x. x.row.coded) to.kinds i)
                  (filled_column number_in (at 0 g.ns) (at 0 g.new_ns) (λ q k n l c x. x.row.number) (λ q k n l c x. x.row.number) to.ns i)
                  (filled_column limit_in (limit_at g.limits) (limit_at g.new_limits) (λ q k n l c x. x.row.limit) (λ q k n l c x. x.row.limit) to.limits i)
                  (filled_column time_in (at zero_time g.cells'.times) (always zero_time) (λ q k n l c x. x.cell.time) (λ q k n l c x. ap (λ (c : Cell). c.time) x.cell) to.times i)
                  (filled_column place_in (at 0 g.cells'.places) (always 0) (λ q k n l c x. x.cell.place) (λ q k n l c x. ap (λ (c : Cell). c.place) x.cell) to.places i)
                  (filled_column mark_in (at 0 g.cells'.marks) (always 0) (λ q k n l c x. x.cell.mark) (λ q k n l c x. ap (λ (c : Cell). c.mark) x.cell) to.marks i)
                  (filled_sinces i)

              roomy : InRoom cut.nodes to
              roomy = in_room cut.nodes to enough

              fits : Fits cut g
              fits = record {
                n = n;
                few = d.old.few;
                small = few;
                begins = begins;
                ends = low;
                all = all_nodes;
                in_kinds = d.old.in_kinds;
                in_ns = d.old.in_ns;
                in_limits = d.old.in_limits;
                in_times = d.in_times;
                in_places = d.in_places;
                in_marks = d.in_marks;
                in_sinces = d.in_sinces;
                new_kinds = d.new.in_kinds;
                new_ns = d.new.in_ns;
                new_limits = d.new.in_limits;
                to_kinds = roomy.kinds;
                to_ns = roomy.ns;
                to_limits = roomy.limits;
                to_times = roomy.times;
                to_places = roomy.places;
                to_marks = roomy.marks;
                to_sinces = roomy.sinces;
              }

              pub planned : Planned g (Ok cut)
              planned =
                  let done = ap (left_exchange (Done cut.nodes)) filled_room_lem in
                  (fits, refl, writes ∙ rw (written, fits_table) (rw (result_size, le-leb cut.nodes (room_length to) enough) done))
