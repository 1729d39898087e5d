pub mod HarvestLaws
