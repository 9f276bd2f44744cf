-- What each step keeps, a run keeps; and what becomes of a board by steps is kept by each step.
use Rattle.std.proofs.Common.{ℕ, List}
use Rattle.qo_model.proofs.Common.{Contains, TypeId, Board}
use Rattle.qo_steps.specs.Steps.{Step, made, ends, attempted, adds, sets, points, links, unsees, gives, empties, cuts, acts, calls, bodies, keeps_path, pins, unpins, holds, releases, clears, asks, declines, forgets, announces, counts, tells, applied, Takes, Run, none, then}
use Rattle.qo_steps.proofs.KeepsLemmas.{StepsKeep}

module _ (types : List TypeId) (On : Board → ℕ → Type 0) (P : Board → Type 0) (k : StepsKeep (Contains types) On P) where
  pub keeps-step : (s : Step) (c : Board) → Takes types On s c → P c → P (applied s c)
  keeps-step (made t slots) c takes h = k.objects.made t slots c takes.0 takes.1 h
  keeps-step (ends n) c takes h = k.ends n c takes h
  keeps-step (attempted count more) c takes h = k.objects.attempted count more c takes h
  keeps-step (adds n name slot) c takes h = k.slots.adds n name slot c h
  keeps-step (sets n i v) c takes h = k.slots.sets n i v c takes h
  keeps-step (points n i m) c takes h = k.slots.points n i m c takes h
  keeps-step (links n i m) c takes h = k.slots.links n i m c takes h
  keeps-step (unsees n i) c takes h = k.slots.unsees n i c takes h
  keeps-step (gives n b props) c takes h = k.slots.gives n b props c h
  keeps-step (empties n i) c takes h = k.slots.empties n i c takes h
  keeps-step (cuts n i) c takes h = k.slots.cuts n i c takes h
  keeps-step (acts act n period) c takes h = k.objects.acts act n period c takes.0 takes.1 h
  keeps-step (calls n old new) c takes h = k.objects.calls n old new c takes h
  keeps-step (bodies n id range) c takes h = k.objects.bodies n id range c h
  keeps-step (keeps_path n path) c takes h = k.objects.keeps_path n path c h
  keeps-step (pins n) c takes h = k.beside.pins n c h
  keeps-step (unpins n) c takes h = k.beside.unpins n c takes h
  keeps-step (holds n) c takes h = k.beside.holds n c takes h
  keeps-step (releases n) c takes h = k.beside.releases n c takes h
  keeps-step (clears n) c takes h = k.beside.clears n c takes h
  keeps-step (asks d) c takes h = k.beside.asks d c takes h
  keeps-step (declines d) c takes h = k.beside.declines d c h
  keeps-step (forgets d) c takes h = k.beside.forgets d c takes h
  keeps-step (announces n) c takes h = k.beside.announces n c takes.0 takes.1 h
  keeps-step counts c takes h = k.beside.counts c h
  keeps-step (tells more) c takes h = k.beside.tells more c h

  pub keeps-run : (b c : Board) → Run types On b c → P b → P c
  keeps-run b c none h = h
  keeps-run b c (then {c = d} run s takes) h = keeps-step s d takes (keeps-run b d run h)

-- the boards that become of one by steps
pub run-steps : (types : List TypeId) (On : Board → ℕ → Type 0) (b : Board) → StepsKeep (Contains types) On (Run types On b)
run-steps types On b =
    record {
      slots = record {
        adds = λ n name slot c h. then h (adds n name slot) tt;
        sets = λ n i v c at h. then h (sets n i v) at;
        points = λ n i m c at h. then h (points n i m) at;
        links = λ n i m c at h. then h (links n i m) at;
        unsees = λ n i c at h. then h (unsees n i) at;
        gives = λ n d props c h. then h (gives n d props) tt;
        empties = λ n i c at h. then h (empties n i) at;
        cuts = λ n i c at h. then h (cuts n i) at;
      };
      objects = record {
        made = λ t slots c passes room h. then h (made t slots) (passes, room);
        attempted = λ count more c own h. then h (attempted count more) own;
        acts = λ act n period c calm on h. then h (acts act n period) (calm, on);
        calls = λ n old new c on h. then h (calls n old new) on;
        bodies = λ n id range c h. then h (bodies n id range) tt;
        keeps_path = λ n path c h. then h (keeps_path n path) tt;
      };
      beside = record {
        pins = λ n c h. then h (pins n) tt;
        unpins = λ n c e h. then h (unpins n) e;
        holds = λ n c on h. then h (holds n) on;
        releases = λ n c on h. then h (releases n) on;
        clears = λ n c on h. then h (clears n) on;
        asks = λ d c may h. then h (asks d) may;
        declines = λ d c h. then h (declines d) tt;
        forgets = λ d c on h. then h (forgets d) on;
        announces = λ n c on room h. then h (announces n) (on, room);
        counts = λ c h. then h counts tt;
        tells = λ more c h. then h (tells more) tt;
      };
      ends = λ n c free h. then h (ends n) free;
    }
