-- What every walk of the rules keeps, every history of calls keeps. P: of the tree held and the number of ticks carried out, while it has not
-- finished; E: of the number once it has. Calls that are not answered 0 are free.
use Rattle.std.specs.Prelude.{◌≡◌, refl, Bool, true, false, List, ℕ, suc, Float}
use Rattle.std.proofs.Common.{subst}
use Rattle.std.proofs.Math.Dec.{T}
use Rattle.std.specs.Float.{Format}
use Rattle.rules.specs.declared.status.Status.{Status}
use Rattle.rules.specs.declared.status.Status.TheVariants.{Running, Success, Failure}
use Rattle.rules.specs.Tree.{Tree, fresh}
use Rattle.rules.specs.Outcome.{World, world, Out, done, asks, short}
use Rattle.rules.specs.Call.{Given, Left, counted, onto_run, since_in, walked, restart_call}
use Rattle.laws.specs.Memory.{held, held_onto}
use Rattle.laws.specs.View.{Call, restarts, left_by, held_by, start_of, walk, Walked, not_walked, View, walking, refusing, view}
use Rattle.laws.specs.History.{is_ticked, not_ticked, OfTicked, Standing, stands, behind, after_left, after, after_all, TakesUp, same_tree}
use Rattle.laws.specs.Invariant.{After, Keeps, Asked, AllAsked, Steps}

-- Ok: what is asked of a call answered 0, beside what stands, with the number of answers that it used
module _ (F : Format) (Ok : Standing → Call → ℕ → Type 0) where
  module _ (t : Tree) (P : Tree → ℕ → Type 0) (E : ℕ → Type 0) where
    module _ (takes : (st : Standing) (a : Call) (u : ℕ) → Ok st a u → TakesUp t st a) (step : Steps F Ok t P E) (start : P (fresh t) 0) where
      stood : (k : ℕ) (g : Given) (s : Status) (r : Float) (t' : Tree) (w : World) → After t P E k (done s r t' w)
          → Keeps t P E (stands (counted s g.record') (onto_run (since_in g s t') t' g.cells') (suc k))
      unfolding counted
      stood k g Running r t' w h = rw (held_onto (since_in g Running t') t t' g.cells' h.0) h.1
      stood k g Success r t' w h = h
      stood k g Failure r t' w h = h

      -- a walk to its end, from a tree of which P holds
      walk_ends : (st : Standing) (a : Call) (u : Tree) → P (start_of u a) (behind a st)
          → (s : Status) (r : Float) (t' : Tree) (f : ℕ) (ans : List (Status × Float)) → walk F u a ≡ done s r t' (world f ans)
          → OfTicked (walked a.given' (held_by u a.given') (done s r t' (world f ans))).answer (Ok st a)
          → Keeps t P E (after_left (behind a st) st (walked a.given' (held_by u a.given') (done s r t' (world f ans))))
      walk_ends st a u v s r t' f ans q h = stood (behind a st) a.given' s r t' (world f ans) (step st a (start_of u a) (behind a st) (done s r t' (world f ans)) q v h)

      -- the fresh tree, or the one that a tick takes up
      begins : (st : Standing) (a : Call) (u : Tree) → Walked a u → TakesUp t st a → (a.fresh ≡ false → Keeps t P E st) → P (start_of u a) (behind a st)
      begins st a u w up v = on a.fresh refl
        where
          on : (b : Bool) → a.fresh ≡ b → P (start_of u a) (behind a st)
          on true f = rw (f, up.the_table u w.table_good) start
          on false f =
              let e : u ≡ t = up.the_table u w.table_good in
              let same : held_by t a.given' ≡ held t st.cells' = same_tree t st a up f (rw e at w.long_enough) in
              let unfinished : st.record'.finished ≡ false = rw (up.the_record f) at (w.not_finished f) in
              rw (f, e, same) (rw unfinished at (v f))

      walk_keeps : (st : Standing) (a : Call) (u : Tree) → Walked a u → Keeps t P E st → (o : Out Tree) → walk F u a ≡ o
          → OfTicked (walked a.given' (held_by u a.given') o).answer (Ok st a) → Keeps t P E (after_left (behind a st) st (walked a.given' (held_by u a.given') o))
      walk_keeps st a u w v (asks n x) q h = v
      walk_keeps st a u w v short q h = v
      walk_keeps st a u w v (done s r t' (world f ans)) q h = walk_ends st a u (begins st a u w (takes st a _ h) (λ f. v)) s r t' f ans q h

      left_keeps : (st : Standing) (a : Call) (l : Left) → View F a l → Keeps t P E st → OfTicked l.answer (Ok st a) → Keeps t P E (after_left (behind a st) st l)
      left_keeps st a l (refusing b n) v h = rw (not_ticked b (not_walked a b n)) v
      left_keeps st a l (walking u w) v h = walk_keeps st a u w v (walk F u a) refl h

      call_keeps : (st : Standing) (a : Call) → Asked F Ok st a → Keeps t P E st → Keeps t P E (after F st a)
      unfolding after
      call_keeps st a h v = left_keeps st a (left_by F a) (view F a) v h

      pub calls_keep : (st : Standing) (cs : List Call) → AllAsked F Ok st cs → Keeps t P E st → Keeps t P E (after_all F st cs)
      unfolding after_all
      calls_keep st List.[] h v = v
      calls_keep st (List.◌∷◌ a cs) h v = calls_keep (after F st a) cs h.1 (call_keeps st a h.0 v)

      -- a restart answered 0 asks nothing of what stood before it
      pub restart_keeps : (st : Standing) (g : Given) → T (is_ticked (restart_call F g).answer) → Asked F Ok st (restarts g) → Keeps t P E (after F st (restarts g))
      unfolding after
      restart_keeps st g a h = on (restart_call F g) (view F (restarts g)) a h
        where
          ends : (u : Tree) → Walked (restarts g) u → (o : Out Tree) → walk F u (restarts g) ≡ o → T (is_ticked (walked g (held_by u g) o).answer)
              → OfTicked (walked g (held_by u g) o).answer (Ok st (restarts g)) → Keeps t P E (after_left 0 st (walked g (held_by u g) o))
          ends u w (asks n x) q a h = absurd a
          ends u w short q a h = absurd a
          ends u w (done s r t' (world f ans)) q a h =
              walk_ends st (restarts g) u (begins st (restarts g) u w (takes st (restarts g) _ h) (λ e. absurd (subst T e tt))) s r t' f ans q h

          on : (l : Left) → View F (restarts g) l → T (is_ticked l.answer) → OfTicked l.answer (Ok st (restarts g)) → Keeps t P E (after_left 0 st l)
          on l (refusing b n) a h = absurd (subst T (not_ticked b (not_walked (restarts g) b n)) a)
          on l (walking u w) a h = ends u w (walk F u (restarts g)) refl a h
