mod WalkLaws
mod NumberLaws
mod AnewLaws
mod FlatLaws
