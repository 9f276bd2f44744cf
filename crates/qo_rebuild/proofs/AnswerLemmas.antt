-- What rebuilding answers, by what its calls answer.
use Rattle.std.proofs.Common.{◌≡◌, sym, ap, ◌∙◌, subst, Option, Some, option_map, Result, Err}
use Rattle.qo_values.specs.declared.codes.Code.{Code}
use Rattle.qo_model.specs.Board.{Board}
use Rattle.qo_properties.specs.declared.refusals.Refusal.{Refusal}
use Rattle.qo_properties.specs.declared.refusals.Refusal.TheVariants as refusal
use Rattle.qo_realize.specs.Answers.{Writes}
use Rattle.qo_realize.specs.Parts.{Parts}
use Rattle.qo_save.specs.Description.{Description}
use Rattle.qo_save.specs.Rebuilding.{rebuilt}
use Rattle.qo_shape.specs.Reads.{Reads}
use Rattle.qo_shape.specs.Said.{said}
use Rattle.qo_shape.specs.declared.errors.ShapeError.{ShapeError}
use Rattle.qo_shape.specs.declared.errors.ShapeError.TheVariants as shape
use Rattle.qo_shape.specs.declared.items.Description.{Description as Read}
use Rattle.qo_rebuild.specs.Answers.{Rebuilds, refused_as, unread_as}
use Rattle.qo_rebuild.specs.declared.errors.SaveError.{SaveError}

pub refused-rebuilds : (p : Parts) (e : Refusal) (r : Result Parts SaveError) (given : Result Board Code) → r ≡ Err (refused_as e) → Writes p (Err e) given
    → Rebuilds (Some given) r
refused-rebuilds p e r given is was = subst (λ (x : Result Parts SaveError). Rebuilds (Some given) x) (sym is) (go e was)
  where
    go : (w : Refusal) → Writes p (Err w) given → Rebuilds (Some given) (Err (refused_as w))
    go (refusal.Refused code) so = ap Some so
    go refusal.Memory so = tt

pub unread-rebuilds : (e : ShapeError) (r : Result Parts SaveError) (o : Option Description) → r ≡ Err (unread_as e) → Reads {X = Read} said (Err e) o
    → Rebuilds (option_map rebuilt o) r
unread-rebuilds e r o is was = subst (λ (x : Result Parts SaveError). Rebuilds (option_map rebuilt o) x) (sym is) (go e was)
  where
    go : (w : ShapeError) → Reads {X = Read} said (Err w) o → Rebuilds (option_map rebuilt o) (Err (unread_as w))
    go shape.Shape so = ap (option_map rebuilt) so
    go shape.Memory so = tt

pub read-rebuilds : (d : Description) (o : Option Description) (r : Result Parts SaveError) → o ≡ Some d → Rebuilds (Some (rebuilt d)) r
    → Rebuilds (option_map rebuilt o) r
read-rebuilds d o r is was = subst (λ (x : Option Description). Rebuilds (option_map rebuilt x) r) (sym is) was
